-- Octets from their bits, and back.
use lib.Lanes.{top}
use lib.Dec.{ltb}
use lib.Bits.{bit_and}
use mathlib.Core.Bool.{cond}
use Rattle.std.proofs.Common.{◌≡◌, ℕ, zero, suc, ◌+◌, ◌*◌, ◌/◌, ◌%◌, ◌<◌, ◌≤◌, true, nat_eq, List, [], ◌∷◌, ◌++◌, length, map, get_or, take, drop, append-nil, length-append, ap, sym, ◌∙◌, refl, arith, lit<}
use Rattle.std.proofs.lemmas.Bool.{agree_below, agree_below_at, eqb-true}
use Rattle.std.proofs.lemmas.List.{ext_get_or}
use Rattle.std.proofs.lemmas.List.FromFn.{map-range_with_len_more, length-map-range_with_len, get_or-map-range_with_len}
use Rattle.std.proofs.lemmas.List.{get_or-take, get_or-drop, length-take-le, length-drop}
use Rattle.std.proofs.Math.Seq.{take-add, take-length}
use Rattle.std.proofs.lemmas.List.Concat.{flat_map-cons, get_or-flat_map}
use Rattle.std.proofs.lemmas.Grind.{flat_map-append}
use Rattle.std.specs.List.{range_with_len}
use Rattle.std.specs.Int.{bit_at}
use Rattle.integer_laws.proofs.FewPlaces.{at_eight}
use Rattle.bit_lists.specs.Bits.{AreBits, AreOctets, bits_of_octet, bits_of_octets, octet_at, octets_of_bits}

-- eight bits from a place on, with what each is worth
pub octet_is : (bits : List ℕ) (p : ℕ) → octet_at bits p ≡ get_or bits p 0 + 2 * get_or bits (p + 1) 0 + 4 * get_or bits (p + 2) 0 + 8 * get_or bits (p + 3) 0 + 16 * get_or bits (p + 4) 0 + 32 * get_or bits (p + 5) 0 + 64 * get_or bits (p + 6) 0 + 128 * get_or bits (p + 7) 0
unfolding octet_at
octet_is bits p = let first : p + 0 ≡ p = omega arith in rw first (omega arith)

-- the bits of a number made of eight bits
bits_of_sum : (o b0 b1 b2 b3 b4 b5 b6 b7 : ℕ) → b0 < 2 → b1 < 2 → b2 < 2 → b3 < 2 → b4 < 2 → b5 < 2 → b6 < 2 → b7 < 2 → o ≡ b0 + 2 * b1 + 4 * b2 + 8 * b3 + 16 * b4 + 32 * b5 + 64 * b6 + 128 * b7 → bits_of_octet o ≡ b0 ∷ b1 ∷ b2 ∷ b3 ∷ b4 ∷ b5 ∷ b6 ∷ b7 ∷ []
unfolding bits_of_octet
bits_of_sum o b0 b1 b2 b3 b4 b5 b6 b7 h0 h1 h2 h3 h4 h5 h6 h7 e =
    ext_get_or 0 (bits_of_octet o) (b0 ∷ b1 ∷ b2 ∷ b3 ∷ b4 ∷ b5 ∷ b6 ∷ b7 ∷ []) refl
    (λ i lt. at_eight (λ i. get_or (bits_of_octet o) i 0 ≡ get_or (b0 ∷ b1 ∷ b2 ∷ b3 ∷ b4 ∷ b5 ∷ b6 ∷ b7 ∷ []) i 0) (omega arith) (omega arith) (omega arith) (omega arith) (omega arith) (omega arith) (omega arith) (omega arith) i lt)

-- eight places of a list, one by one
eight_of : (bits : List ℕ) (p : ℕ) → p + 8 ≤ length bits → take 8 (drop p bits) ≡ get_or bits p 0 ∷ get_or bits (p + 1) 0 ∷ get_or bits (p + 2) 0 ∷ get_or bits (p + 3) 0 ∷ get_or bits (p + 4) 0 ∷ get_or bits (p + 5) 0 ∷ get_or bits (p + 6) 0 ∷ get_or bits (p + 7) 0 ∷ []
eight_of bits p le =
    let listed = get_or bits p 0 ∷ get_or bits (p + 1) 0 ∷ get_or bits (p + 2) 0 ∷ get_or bits (p + 3) 0 ∷ get_or bits (p + 4) 0 ∷ get_or bits (p + 5) 0 ∷ get_or bits (p + 6) 0 ∷ get_or bits (p + 7) 0 ∷ [] in
    let at : (i : ℕ) → i < 8 → get_or (take 8 (drop p bits)) i 0 ≡ get_or bits (p + i) 0 =
    λ i lt. get_or-take 8 (drop p bits) i 0 lt ∙ get_or-drop p bits i 0 in
    let first : p + 0 ≡ p = omega arith in
    ext_get_or 0 (take 8 (drop p bits)) listed (length-take-le 8 (drop p bits) (omega (arith, length-drop p bits)))
    (λ i lt. let small : i < 8 = omega (arith, length-take-le 8 (drop p bits) (omega (arith, length-drop p bits))) in
    at i small ∙ at_eight (λ i. get_or bits (p + i) 0 ≡ get_or listed i 0) (ap (λ n. get_or bits n 0) first) refl refl refl refl refl refl refl i small)

-- the octet at a place has the eight bits from there on
bits_of_octet_at : (bits : List ℕ) (p : ℕ) → AreBits bits → p + 8 ≤ length bits → bits_of_octet (octet_at bits p) ≡ take 8 (drop p bits)
bits_of_octet_at bits p are_bits le =
    bits_of_sum (octet_at bits p) _ _ _ _ _ _ _ _ (are_bits p 0 (omega arith)) (are_bits (p + 1) 0 (omega arith)) (are_bits (p + 2) 0 (omega arith)) (are_bits (p + 3) 0 (omega arith)) (are_bits (p + 4) 0 (omega arith)) (are_bits (p + 5) 0 (omega arith)) (are_bits (p + 6) 0 (omega arith)) (are_bits (p + 7) 0 (omega arith)) (octet_is bits p)
    ∙ sym (eight_of bits p le)

-- the first so many octets have the bits that eight times as many places have
bits_of_first : (bits : List ℕ) (n : ℕ) → AreBits bits → 8 * n ≤ length bits → bits_of_octets (map (λ k. octet_at bits (8 * k)) (range_with_len 0 n)) ≡ take (8 * n) bits
bits_of_first bits zero are_bits le = refl
bits_of_first bits (suc n) are_bits le =
    let of_place = λ (k : ℕ). octet_at bits (8 * k) in
    let one_more : suc n ≡ n + 1 = omega arith in
    let eight_more : 8 * suc n ≡ 8 * n + 8 = omega arith in
    ap (λ m. bits_of_octets (map of_place (range_with_len 0 m))) one_more
    ∙ ap bits_of_octets (map-range_with_len_more of_place 0 n n (omega arith))
    ∙ flat_map-append bits_of_octet (map of_place (range_with_len 0 n)) (of_place n ∷ [])
    ∙ ap (λ front. front ++ bits_of_octets (of_place n ∷ [])) (bits_of_first bits n are_bits (omega arith))
    ∙ ap (λ last. take (8 * n) bits ++ last) (append-nil (bits_of_octet (of_place n)) ∙ bits_of_octet_at bits (8 * n) are_bits (omega arith))
    ∙ sym (ap (λ m. take m bits) eight_more ∙ take-add (8 * n) 8 bits)

-- the octets of bits have these bits
pub bits_of_octets_of_bits : (bits : List ℕ) → AreBits bits → length bits % 8 ≡ 0 → bits_of_octets (octets_of_bits bits) ≡ bits
unfolding octets_of_bits
bits_of_octets_of_bits bits are_bits whole =
    let all : 8 * (length bits / 8) ≡ length bits = omega arith in
    bits_of_first bits (length bits / 8) are_bits (omega arith) ∙ ap (λ m. take m bits) all ∙ take-length bits

-- eight bits an octet
pub length-bits_of_octets : (octets : List ℕ) → length (bits_of_octets octets) ≡ 8 * length octets
unfolding bits_of_octet
length-bits_of_octets [] = refl
length-bits_of_octets (x ∷ xs) =
    ap length (flat_map-cons bits_of_octet x xs)
    ∙ length-append (bits_of_octet x) (bits_of_octets xs)
    ∙ (let rest = length-bits_of_octets xs in omega (arith, rest))

-- an octet is the sum of its bits
sum_of_bits : (o : ℕ) → o < 256 → bit_at o 0 + 2 * bit_at o 1 + 4 * bit_at o 2 + 8 * bit_at o 3 + 16 * bit_at o 4 + 32 * bit_at o 5 + 64 * bit_at o 6 + 128 * bit_at o 7 ≡ o
sum_of_bits o lt =
    eqb-true _ _ (agree_below_at (λ o. nat_eq (bit_at o 0 + 2 * bit_at o 1 + 4 * bit_at o 2 + 8 * bit_at o 3 + 16 * bit_at o 4 + 32 * bit_at o 5 + 64 * bit_at o 6 + 128 * bit_at o 7) o) (λ o. true) 256 o refl lt)

-- bit i of octet k
bit_of_octets : (octets : List ℕ) (k i : ℕ) → k < length octets → i < 8 → get_or (bits_of_octets octets) (8 * k + i) 0 ≡ bit_at (get_or octets k 0) i
unfolding bits_of_octet
bit_of_octets octets k i lt small =
    let before : length (bits_of_octets (take k octets)) ≡ 8 * k =
    length-bits_of_octets (take k octets) ∙ ap (λ n. 8 * n) (length-take-le k octets (omega arith)) in
    sym (ap (λ n. get_or (bits_of_octets octets) (n + i) 0) before)
    ∙ get_or-flat_map bits_of_octet octets k i 0 0 lt small
    ∙ at_eight (λ i. get_or (bits_of_octet (get_or octets k 0)) i 0 ≡ bit_at (get_or octets k 0) i) refl refl refl refl refl refl refl refl i small

octet_at_bits_of : (octets : List ℕ) (k : ℕ) → AreOctets octets → k < length octets → octet_at (bits_of_octets octets) (8 * k) ≡ get_or octets k 0
octet_at_bits_of octets k are lt =
    let o = get_or octets k 0 in
    let bits = bits_of_octets octets in
    let at : (i : ℕ) → i < 8 → get_or bits (8 * k + i) 0 ≡ bit_at o i = λ i small. bit_of_octets octets k i lt small in
    let first : 8 * k + 0 ≡ 8 * k = omega arith in
    let at_first : get_or bits (8 * k) 0 ≡ bit_at o 0 = sym (ap (λ n. get_or bits n 0) first) ∙ at 0 (lit< tt) in
    let total = sum_of_bits o (are k 0 lt) in
    octet_is bits (8 * k)
    ∙ rw (at_first, at 1 (lit< tt), at 2 (lit< tt), at 3 (lit< tt), at 4 (lit< tt), at 5 (lit< tt), at 6 (lit< tt), at 7 (lit< tt)) total

-- the octets of the bits of octets are these octets
pub octets_of_bits_of_octets : (octets : List ℕ) → AreOctets octets → octets_of_bits (bits_of_octets octets) ≡ octets
unfolding octets_of_bits
octets_of_bits_of_octets octets are =
    let bits = bits_of_octets octets in
    let of_place = λ (k : ℕ). octet_at bits (8 * k) in
    let count : length bits / 8 ≡ length octets = (let e = length-bits_of_octets octets in omega (arith, e)) in
    let long = length-map-range_with_len of_place 0 (length bits / 8) in
    ext_get_or 0 (map of_place (range_with_len 0 (length bits / 8))) octets (long ∙ count)
    (λ k lt. get_or-map-range_with_len of_place 0 (length bits / 8) k k 0 (omega (arith, long)) (omega arith) ∙ octet_at_bits_of octets k are (omega (arith, long, count)))

-- the octet of eight places taken out is the octet at their place
pub octet_of_part : (bits : List ℕ) (p n : ℕ) → n ≡ 8 → octet_at (take n (drop p bits)) 0 ≡ octet_at bits p
octet_of_part bits p n eight =
    let part = take 8 (drop p bits) in
    let at : (i : ℕ) → i < 8 → get_or part i 0 ≡ get_or bits (p + i) 0 =
    λ i lt. get_or-take 8 (drop p bits) i 0 lt ∙ get_or-drop p bits i 0 in
    let first : p + 0 ≡ p = omega arith in
    let at0 : get_or part 0 0 ≡ get_or bits p 0 = at 0 (lit< tt) ∙ ap (λ n. get_or bits n 0) first in
    let at1 = at 1 (lit< tt) in
    let at2 = at 2 (lit< tt) in
    let at3 = at 3 (lit< tt) in
    let at4 = at 4 (lit< tt) in
    let at5 = at 5 (lit< tt) in
    let at6 = at 6 (lit< tt) in
    let at7 = at 7 (lit< tt) in
    ap (λ n. octet_at (take n (drop p bits)) 0) eight
    ∙ octet_is part 0 ∙ rw (at0, at1, at2, at3, at4, at5, at6, at7) (sym (octet_is bits p))

-- what is left of an octet at the place that is worth so much: 0 or 1
abbrev pub left_at : ℕ → ℕ → ℕ
left_at octet worth = cond (top 7 (cond (ltb (bit_and octet worth) 1) 255 0)) (bit_and octet worth) 1

-- what is left of an octet at its eight places is its bits
pub left_is : (octet : ℕ) → octet < 256 → left_at octet 1 ∷ left_at octet 2 ∷ left_at octet 4 ∷ left_at octet 8 ∷ left_at octet 16 ∷ left_at octet 32 ∷ left_at octet 64 ∷ left_at octet 128 ∷ [] ≡ bits_of_octet octet
unfolding bits_of_octet
left_is octet lt =
    let left = left_at octet 1 ∷ left_at octet 2 ∷ left_at octet 4 ∷ left_at octet 8 ∷ left_at octet 16 ∷ left_at octet 32 ∷ left_at octet 64 ∷ left_at octet 128 ∷ [] in
    let at : (worth i : ℕ) → agree_below (λ o. nat_eq (left_at o worth) (bit_at o i)) (λ o. true) 256 ≡ true → left_at octet worth ≡ bit_at octet i =
    λ worth i agree. eqb-true _ _ (agree_below_at (λ o. nat_eq (left_at o worth) (bit_at o i)) (λ o. true) 256 octet agree lt) in
    ext_get_or 0 left (bits_of_octet octet) refl
    (λ i small. at_eight (λ i. get_or left i 0 ≡ get_or (bits_of_octet octet) i 0) (at 1 0 refl) (at 2 1 refl) (at 4 2 refl) (at 8 3 refl) (at 16 4 refl) (at 32 5 refl) (at 64 6 refl) (at 128 7 refl) i small)
