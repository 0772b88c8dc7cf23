use Rattle.std.proofs.Common.{◌≡◌, ℕ, ◌+◌, ◌%◌, ◌^◌, List, [], ◌∷◌, length, map, take, get_or, replicate, refl, sym, subst, ap, ◌∙◌, arith, bit_and}
use Rattle.std.specs.Simd.Lanes.{zip2}
use Rattle.std.proofs.lemmas.Grind.{and_numeral}
use Rattle.std.proofs.lemmas.List.{length-map, take_all}
use Rattle.std.proofs.lemmas.List.Elements.{All-head, All-map, All-tail}
use Rattle.std.proofs.lemmas.Simd.{zip2_splat}
use Rattle.byte_lanes.proofs.ByteMasks.{differ_mask, same_by_mask}
use Rattle.bit_lists.specs.Bits.{AreBits, IsBit}
use Rattle.bit_lists.specs.Text.{characters_of}
use Rattle.bit_lists.proofs.characters.BitCharactersAlphabet.block_of.Goals as goal

-- the lowest bits of sixteen characters, and the characters of these, as lanes
abbrev low : List ℕ → List ℕ
low xs = zip2 (λ x y. bit_and x y) (take 16 xs) (replicate 16 1)

abbrev plus : List ℕ → List ℕ
plus bits = zip2 (λ x y. (x + y) % 256) bits (replicate 16 48)

-- each is a bit
low_is : (xs : List ℕ) → length xs ≡ 16 → low xs ≡ map (λ x. bit_and x 1) xs
low_is xs long =
    ap (λ front. zip2 (λ x y. bit_and x y) front (replicate 16 1)) (take_all 16 xs (omega arith)) ∙ zip2_splat (λ x y. bit_and x y) xs 16 1 long

AreBits-low : (xs : List ℕ) → length xs ≡ 16 → AreBits (low xs)
AreBits-low xs long =
    subst AreBits (sym (low_is xs long)) (All-map IsBit (λ x. bit_and x 1) xs (λ k d within. omega (arith, and_numeral (get_or xs k d) 0 refl)))

-- the characters of bits are sums that fit a byte
written : (bits : List ℕ) → AreBits bits → map (λ x. (x + 48) % 256) bits ≡ characters_of bits
written [] are = refl
written (bit ∷ bits) are =
    let one : IsBit bit = All-head IsBit bit bits are in
    let sum : (bit + 48) % 256 ≡ 48 + bit = omega arith in
    rw (sum, written bits (All-tail IsBit bit bits are)) refl

-- where they are the characters that are there, these are read
read_back : (xs : List ℕ) → length xs ≡ 16 → differ_mask (plus (low xs)) (take 16 xs) % 2 ^ 64 ≡ 0 → xs ≡ characters_of (low xs)
read_back xs long none =
    let whole : take 16 xs ≡ xs = take_all 16 xs (omega arith) in
    let count : length (low xs) ≡ 16 = ap length (low_is xs long) ∙ length-map xs (λ x. bit_and x 1) ∙ long in
    let sums : plus (low xs) ≡ map (λ x. (x + 48) % 256) (low xs) = zip2_splat (λ x y. (x + y) % 256) (low xs) 16 48 count in
    let many : length (plus (low xs)) ≡ 16 = ap length sums ∙ length-map (low xs) (λ x. (x + 48) % 256) ∙ count in
    let front : length (take 16 xs) ≡ 16 = ap length whole ∙ long in
    let same : plus (low xs) ≡ take 16 xs = same_by_mask (plus (low xs)) (take 16 xs) (omega arith) (omega arith) none in
    sym whole ∙ sym same ∙ sums ∙ written (low xs) (AreBits-low xs long)

pub returns-then-written-characters-eq0-clause-values : goal.returns-then-written-characters-eq0-clause-values
returns-then-written-characters-eq0-clause-values c = AreBits-low c.args.characters.now c.requires

pub returns-then-written-characters-eq0-clause-read : goal.returns-then-written-characters-eq0-clause-read
returns-then-written-characters-eq0-clause-read c = read_back c.args.characters.now c.requires c.if-written-characters-eq0.true
