use Rattle.std.proofs.Common.{refl, nat_eq, w8, ◌/◌, ◌∙◌, ap, true}
use Rattle.std.specs.Int.{reverse_bits, reverse_bits_onto}
use Rattle.std.proofs.lemmas.Bool.{eqb-true, agree_below_at}
use Rattle.butterfly64.specs.MirrorOrder.{mirror_of}
use Rattle.butterfly64.proofs.mirror.Goals as goal

-- by computing it at each place
pub returns-clause-value : goal.returns-clause-value
unfolding mirror_of reverse_bits_onto
returns-clause-value c =
    ap (λ n. n / 4) c.reverse_bits.ensures ∙ eqb-true _ _ (agree_below_at (λ n. nat_eq (reverse_bits w8 n / 4) (mirror_of 6 n)) (λ _. true) 64 c.args.place refl c.requires)
