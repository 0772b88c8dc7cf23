-- Parts of products, as the code computes them, and entries of turned lists.
use Rattle.std.proofs.Common.{◌≡◌, ℕ, ◌*◌, ◌^◌, ◌≤◌, List, map, refl, ap, sym, ◌∙◌, arith, ℤ, pos, ◌+ℤ◌, ◌-ℤ◌, ◌*ℤ◌, neg_ℤ, ◌<◌, ◌≤ℤ◌, unsigned_abs, w32, to_z, of_z}
use mir.Syntax.{w128}
use Rattle.std.proofs.Math.ListN.{get_or-map}
use Rattle.std.proofs.lemmas.Int.{ints, to_z-of_z, fits_signed_from_abs, fits_signed_mul}
use Rattle.std.specs.Prelude.{slice_index_or, FitsSigned}
use Rattle.integer_laws.proofs.Ring.{negated, ring, ◌⊕◌, ◌⊖◌, ◌⊗◌, ◌≗◌}
use Rattle.fixed_complex.specs.declared.Cx.{Cx}
use Rattle.fixed_complex.specs.PairLists.{entry}
use Rattle.fixed_complex.specs.Pairs.{conjugate, multiple, times, zero_pair}
use Rattle.fixed_complex.proofs.Pairs.{same_parts}
use Rattle.fixed_complex.proofs.Parts.{held, held_is}
use Rattle.fixed_complex.proofs.Sums.{zero_times}
use Rattle.pilot_turns.specs.Pilots.{turn_part}
use Rattle.pilot_turns.specs.Turned.{turned_carriers, turned_channels}

-- sums and differences that fit
pub sum_is : (p q : ℤ) → unsigned_abs p ≤ 2 ^ 61 → unsigned_abs q ≤ 2 ^ 61 → held (held p +ℤ held q) ≡ p +ℤ q
sum_is p q small_p small_q = omega (arith, ints)

pub difference_is : (p q : ℤ) → unsigned_abs p ≤ 2 ^ 61 → unsigned_abs q ≤ 2 ^ 61 → held (held p -ℤ held q) ≡ p -ℤ q
difference_is p q small_p small_q = omega (arith, ints)

-- the parts of a product with a conjugate
pub re_part : (a b u v : ℤ) → a *ℤ u +ℤ b *ℤ v ≡ a *ℤ u -ℤ b *ℤ neg_ℤ v
re_part = ring 4 (λ a b u v. a ⊗ u ⊕ b ⊗ v ≗ a ⊗ u ⊖ b ⊗ negated v) refl

pub im_part : (a b u v : ℤ) → b *ℤ u -ℤ a *ℤ v ≡ a *ℤ neg_ℤ v +ℤ b *ℤ u
im_part = ring 4 (λ a b u v. b ⊗ u ⊖ a ⊗ v ≗ a ⊗ negated v ⊕ b ⊗ u) refl

-- a multiple comes out of a product with a conjugate
pub multiple_out : (n : ℤ) (a b : Cx) → times (multiple n a) (conjugate b) ≡ multiple n (times a (conjugate b))
unfolding times
multiple_out n a b = same_parts _ _ (re n a.re a.im b.re b.im) (im n a.re a.im b.re b.im)
  where
    re : (n a b u v : ℤ) → (n *ℤ a) *ℤ u -ℤ (n *ℤ b) *ℤ neg_ℤ v ≡ n *ℤ (a *ℤ u -ℤ b *ℤ neg_ℤ v)
    re = ring 5 (λ n a b u v. (n ⊗ a) ⊗ u ⊖ (n ⊗ b) ⊗ negated v ≗ n ⊗ (a ⊗ u ⊖ b ⊗ negated v)) refl

    im : (n a b u v : ℤ) → (n *ℤ a) *ℤ neg_ℤ v +ℤ (n *ℤ b) *ℤ u ≡ n *ℤ (a *ℤ neg_ℤ v +ℤ b *ℤ u)
    im = ring 5 (λ n a b u v. (n ⊗ a) ⊗ negated v ⊕ (n ⊗ b) ⊗ u ≗ n ⊗ (a ⊗ negated v ⊕ b ⊗ u)) refl

-- the entries of turned lists
pub channel_entry : (turn : Cx) (estimate : List Cx) (bin : ℕ) → entry (turned_channels turn estimate) bin ≡ times (entry estimate bin) turn
channel_entry turn estimate bin =
    ap (slice_index_or (map (λ channel. times channel turn) estimate) bin) (sym (zero_times turn)) ∙ get_or-map (λ channel. times channel turn) estimate bin zero_pair

pub carrier_entry : (symbol : List Cx) (bin : ℕ) → entry (turned_carriers symbol) bin ≡ multiple (pos 16384) (entry symbol bin)
carrier_entry symbol bin =
    get_or-map (multiple (pos 16384)) symbol bin zero_pair

-- numbers that the code holds in words of 128 bits
abbrev held128 : ℤ → ℤ
held128 z = to_z w128 (of_z w128 z)

pub product_is : (p a u : ℤ) → unsigned_abs a ≤ 2 ^ 62 → unsigned_abs u ≤ 2 ^ 62 → p ≡ held a *ℤ held u → p ≡ a *ℤ u
product_is p a u small small' is = is ∙ ap (λ x. x *ℤ held u) (held_is a small) ∙ ap (λ y. a *ℤ y) (held_is u small')

pub wide_is : (f z : ℤ) → unsigned_abs z ≤ 2 ^ 62 → f ≡ held z → held128 (pos 16384 *ℤ held128 f) ≡ pos 16384 *ℤ z
wide_is f z small is =
    let same : f ≡ z = is ∙ held_is z small in
    let inner : held128 f ≡ z = rw same (to_z-of_z w128 z (fits_signed_from_abs w128 z (omega arith))) in
    let whole : FitsSigned w128 (pos 16384 *ℤ z) = fits_signed_mul w128 (pos 16384) z 16384 (2 ^ 62) (omega arith) small (omega arith) in
    rw inner (to_z-of_z w128 _ whole)

pub square_is : (m : ℤ) → pos 0 ≤ℤ m → m ≤ℤ pos (2 ^ 79) → held128 m ≡ m
square_is m least most = to_z-of_z w128 m (fits_signed_from_abs w128 m (omega (arith, ints)))

-- the carrier of a pilot in a word of 32 bits
pub carrier_is : (k : ℕ) (z : ℤ) → k < 4 → z ≡ pos (14 * k) -ℤ pos 21 → to_z w32 (of_z w32 z) ≡ pos (14 * k) -ℤ pos 21
carrier_is k z lt is = rw is (omega (arith, ints))

-- a component of a turn, as the code holds it
pub part_is : (p : ℤ) (weight : ℕ) (part : ℤ) → unsigned_abs part ≤ 2 ^ 48 → unsigned_abs p ≤ 2 ^ 15 → p ≡ turn_part weight (held part) → held p ≡ turn_part weight part
part_is p weight part small small' is = held_is p (omega arith) ∙ is ∙ ap (turn_part weight) (held_is part (omega arith))
