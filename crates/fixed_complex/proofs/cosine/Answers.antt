use Rattle.std.proofs.Common.{refl, slice_index_or, w64, to_z, of_z, pos, true}
use Rattle.fixed_complex.specs.declared.TheConstants.{COSINES}
use Rattle.fixed_complex.specs.Turns.{cosine_at}
use Rattle.fixed_complex.proofs.ByTable.{is_same, same_number}
use Rattle.std.proofs.lemmas.Bool.{agree_below_at}
use Rattle.fixed_complex.proofs.cosine.Goals as goal

pub returns : goal.returns
returns c =
    is_same _ _ (agree_below_at (λ k. same_number (to_z w64 (of_z w64 (slice_index_or COSINES k (pos 0)))) (cosine_at k)) (λ _. true) 64 c.args.place refl c.requires)
