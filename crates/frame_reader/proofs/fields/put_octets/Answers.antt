use Rattle.std.proofs.Common.{◌≡◌, ℕ, ◌+◌, ◌-◌, ◌*◌, ◌/◌, ◌<◌, ◌++◌, ◌∷◌, [], ◌∙◌, map, length, take, ap, sym, arith}
use Rattle.std.proofs.lemmas.List.{take_all, take_more_set}
use Rattle.std.proofs.lemmas.List.FromFn.{map-range_with_len_more}
use Rattle.std.specs.List.{range_with_len}
use Rattle.bit_lists.specs.Bits.{octet_at, octets_of_bits}
use Rattle.bit_lists.proofs.EightBits.{octet_of_part}
use Rattle.frame_reader.proofs.fields.put_octets.Goals as goal

pub loop-k-preserved : goal.loop-k-preserved
loop-k-preserved c =
    let k = c.loop-k.k in
    let bits = c.args.bits.now in
    let octets = c.loop-k.octets in
    let of_place = λ (k : ℕ). octet_at bits (8 * k) in
    let size : (8 * k + 8) - 8 * k ≡ 8 = omega arith in
    let within : k < length octets = omega arith in
    take_more_set octets k c.octet_of.result within
    ∙ ap (λ front. front ++ c.octet_of.result ∷ []) c.loop-k.invariant
    ∙ ap (λ last. map of_place (range_with_len 0 k) ++ last ∷ []) (c.octet_of.ensures.value ∙ octet_of_part bits (8 * k) ((8 * k + 8) - 8 * k) size)
    ∙ sym (map-range_with_len_more of_place 0 k k (omega arith))

pub returns : goal.returns
unfolding octets_of_bits
returns c =
    let octets = c.loop-k.octets in
    let all : c.loop-k.k ≡ length c.args.bits.now / 8 = omega arith in
    let whole : take c.loop-k.k octets ≡ octets = take_all c.loop-k.k octets (omega arith) in
    sym whole ∙ c.loop-k.invariant ∙ ap (λ n. map (λ (k : ℕ). octet_at c.args.bits.now (8 * k)) (range_with_len 0 n)) all
