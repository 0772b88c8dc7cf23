use Rattle.std.proofs.Common.{◌≡◌, ℕ, ◌+◌, ◌-◌, ◌*◌, ◌/◌, ◌++◌, ◌∷◌, [], ◌∙◌, map, length, ap, sym, arith}
use Rattle.std.proofs.lemmas.List.FromFn.{map-range_with_len_more}
use Rattle.std.specs.List.{range_with_len}
use Rattle.bit_lists.specs.Bits.{octet_at, octets_of_bits, bits_of_octets}
use Rattle.bit_lists.proofs.EightBits.{octet_of_part, bits_of_octets_of_bits, octets_of_bits_of_octets}
use Rattle.bit_lists.proofs.bytes_of.Goals as goal

pub loop-k-preserved : goal.loop-k-preserved
loop-k-preserved c =
    let k = c.loop-k.k in
    let bits = c.args.bits.now in
    let of_place = λ (k : ℕ). octet_at bits (8 * k) in
    let size : (8 * k + 8) - 8 * k ≡ 8 = omega arith in
    c.in_ok-push.ensures.items
    ∙ ap (λ front. front ++ c.octet_of.result ∷ []) c.loop-k.invariant
    ∙ ap (λ last. map of_place (range_with_len 0 k) ++ last ∷ []) (c.octet_of.ensures.value ∙ octet_of_part bits (8 * k) ((8 * k + 8) - 8 * k) size)
    ∙ sym (map-range_with_len_more of_place 0 k k (omega arith))

value : (c : goal.After-from_vec) → c.from_vec.result ≡ octets_of_bits c.args.bits.now
unfolding octets_of_bits
value c =
    let all : c.loop-k.k ≡ length c.args.bits.now / 8 = omega arith in
    c.from_vec.ensures ∙ c.loop-k.invariant
    ∙ ap (λ n. map (λ (k : ℕ). octet_at c.args.bits.now (8 * k)) (range_with_len 0 n)) all

pub returns-clause-value : goal.returns-clause-value
returns-clause-value c = value c

pub returns-clause-has_bits : goal.returns-clause-has_bits
returns-clause-has_bits c = ap bits_of_octets (value c) ∙ bits_of_octets_of_bits c.args.bits.now c.requires.bits c.requires.whole

pub returns-clause-no_other : goal.returns-clause-no_other
returns-clause-no_other c = λ other are same. sym (octets_of_bits_of_octets other are) ∙ ap octets_of_bits same ∙ sym (value c)
