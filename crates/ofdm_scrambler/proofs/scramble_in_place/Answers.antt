use Rattle.std.proofs.Common.{ℕ, List, ◌<◌, ◌≡◌, ◌+◌, ◌-◌, ◌*◌, ◌∙◌, ap, sym, subst, arith, length, slice_index, bit_xor, inl, inr}
use Rattle.std.proofs.lemmas.Bool.{cases_lt}
use Rattle.std.proofs.lemmas.List.FromFn.{fill_by_all, get_or-map-range_with_len}
use Rattle.bit_lists.specs.Bits.{exclusive_or}
use Rattle.bit_lists.proofs.BitFacts.{bit_xor_is}
use Rattle.ofdm_scrambler.specs.Sequence.{scrambler_bit, scrambler_sequence}
use Rattle.ofdm_scrambler.proofs.LastSeven.{AreBits-scrambled, IsBit-scrambler_bit}
use Rattle.ofdm_scrambler.proofs.Period.{scrambler_bit_again}
use Rattle.ofdm_scrambler.proofs.scramble_in_place.Goals as goal

-- a bit of the piece that begins behind so many periods, after its exclusive or with that of the first period
changed_is : (seed periods k a z : ℕ) → a < 2 → z ≡ scrambler_bit seed k → bit_xor a z ≡ exclusive_or a (scrambler_bit seed (127 * periods + k))
changed_is seed periods k a z small is =
    rw is
    (bit_xor_is a (scrambler_bit seed k) small (IsBit-scrambler_bit seed k)
    ∙ ap (exclusive_or a) (sym (scrambler_bit_again seed periods k)))

-- entry k of the first period
in_period : (seed : ℕ) (period : List ℕ) → period ≡ scrambler_sequence seed 127 → (k : ℕ) → k < 127 → slice_index period k ≡ scrambler_bit seed k
in_period seed period is k lt =
    ap (λ period. slice_index period k) is
    ∙ get_or-map-range_with_len (scrambler_bit seed) 0 127 k k 0 lt (omega arith)

pub loop-begun-preserved : goal.loop-begun-preserved
loop-begun-preserved c =
    let bits = c.args.bits.now in
    let begun = c.loop-begun.begun in
    let so_far = c.loop-begun.invariant in
    let piece = c.scramble_piece.ensures in
    let count = c.min-count.result in
    let counted = c.min-count.ensures in
    record {
      changed = λ n below inside.
          elim (cases_lt n (127 * begun)) [
            | inl earlier ↦ piece.before n earlier ∙ so_far.changed n earlier inside
            | inr later ↦
                (let k = n - 127 * begun in
                let here : 127 * begun + k ≡ n = omega arith in
                let in_piece : k < count = omega arith in
                let kept : slice_index c.loop-begun.bits n ≡ slice_index bits n = so_far.kept n later in
                let is_bit : slice_index bits n < 2 = c.requires n 0 inside in
                let now : slice_index c.scramble_piece.new.bits n ≡ bit_xor (slice_index bits n) (slice_index c.sequence.new.out k) =
                subst (λ m. slice_index c.scramble_piece.new.bits m ≡ bit_xor (slice_index c.loop-begun.bits m) (slice_index c.sequence.new.out k)) here (piece.changed k in_piece)
                ∙ ap (λ bit. bit_xor bit (slice_index c.sequence.new.out k)) kept in
                now
                ∙ changed_is c.args.seed begun k (slice_index bits n) (slice_index c.sequence.new.out k) is_bit (in_period c.args.seed c.sequence.new.out c.sequence.ensures.values k (omega arith))
                ∙ ap (λ m. exclusive_or (slice_index bits n) (scrambler_bit c.args.seed m)) here)
          ];
      kept = λ n le.
          elim (cases_lt n (length bits)) [
            | inl inside ↦ piece.behind n (omega arith) ∙ so_far.kept n (omega arith)
            | inr past ↦ piece.behind n (omega arith) ∙ so_far.kept n (omega arith)
          ];
    }

pub returns-clause-values : goal.returns-clause-values
returns-clause-values c =
    fill_by_all (λ k. exclusive_or (slice_index c.args.bits.now k) (scrambler_bit c.args.seed k)) c.loop-begun.bits (length c.args.bits.now) 0 (omega arith) (λ k h. c.loop-begun.invariant.changed k (omega arith) (omega arith))

pub returns-clause-bits : goal.returns-clause-bits
returns-clause-bits c =
    rw (returns-clause-values c) (AreBits-scrambled c.args.seed c.args.bits.now)
