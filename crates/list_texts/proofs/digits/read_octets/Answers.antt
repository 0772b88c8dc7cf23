use Rattle.std.proofs.Common.{ℕ, List, ◌/◌, ◌≡◌, length, Ok, refl, sym, ap, ◌∙◌, subst, arith}
use Rattle.std.proofs.lemmas.List.{take_at}
use Rattle.hex.specs.Hex.{decode_sized}
use Rattle.hex.proofs.HexLemmas.{decode_sized-encode_lower}
use Rattle.list_texts.specs.Words.{SaysOctets}
use Rattle.list_texts.proofs.HexDigits.{digits_count}
use Rattle.list_texts.proofs.Sames.{are_bytes}
use Rattle.list_texts.proofs.digits.read_octets.Goals as goal

decoded : (octets digits : List ℕ) (count : ℕ) → SaysOctets octets digits → count ≡ length digits / 2 → decode_sized digits count ≡ Ok octets
decoded octets digits count says e =
    ap (λ d. decode_sized d count) says.is ∙ decode_sized-encode_lower octets count (omega (arith, digits_count octets digits says, e)) (are_bytes octets says.octets_are)

pub unwrap-requires : goal.unwrap-requires
unwrap-requires c =
    let same = decoded c.requires.0 c.args.digits.now (length c.deref_mut.result.now) c.requires.1 (omega (arith, c.deref_mut.ensures.len, c.in_ok-octets.ensures.len)) in
    let written = rw same at c.decode_to_slice.ensures.value in
    rw written.0 refl

pub returns : goal.returns
returns c =
    let same = decoded c.requires.0 c.args.digits.now (length c.deref_mut.result.now) c.requires.1 (omega (arith, c.deref_mut.ensures.len, c.in_ok-octets.ensures.len)) in
    let written = rw same at c.decode_to_slice.ensures.value in
    let size = ap length written.1 in
    let count = digits_count c.requires.0 c.args.digits.now c.requires.1 in
    let octets = c.from_vec.ensures ∙ take_at c.decode_to_slice.new.out _ c.in_ok-octets.octets.len (omega (arith, size, count, c.in_ok-octets.ensures.len)) ∙ written.1 in
    subst (λ (o : List ℕ). SaysOctets o c.args.digits.now) (sym octets) c.requires.1
