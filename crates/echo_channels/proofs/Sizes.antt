-- The sizes of channels and of echoed bodies.
use Rattle.std.proofs.Common.{◌≡◌, ℕ, ◌+◌, ◌-◌, ◌*◌, ◌^◌, ◌≤◌, List, refl, sym, subst, inl, inr, arith, pos, unsigned_abs}
use Rattle.std.proofs.lemmas.Bool.{cases_lt}
use Rattle.integer_laws.proofs.Order.{le_of_pos-le, pos-le}
use Rattle.integer_laws.proofs.Sizes.{size_of_nat, size_to_nat, sum_of_squares-scaled, sum_of_squares_is}
use Rattle.fixed_complex.specs.declared.Cx.{Cx}
use Rattle.fixed_complex.specs.PairLists.{entry}
use Rattle.fixed_complex.specs.Pairs.{IsOfSize, IsWithin, conjugate, minus, times, IsAtLeastOfSize}
use Rattle.fixed_complex.specs.Turns.{turn_at}
use Rattle.fixed_complex.proofs.PairLists.{entry-map}
use Rattle.fixed_complex.proofs.PairSizes.{size-conjugate, size-minus, size-multiple, wider}
use Rattle.fixed_complex.proofs.Sums.{minus_minus}
use Rattle.fixed_complex.proofs.TurnLaws.{turn-size}
use Rattle.plain_waves.specs.Bodies.{all_times, plain_body}
use Rattle.plain_waves.proofs.Loads.{plain_within}
use Rattle.plain_waves.proofs.Places.{plain_body-local}
use Rattle.echo_taps.specs.Taps.{IsEcho}
use Rattle.echo_taps.proofs.TapSums.{echo_beside_first, echo_of_size, echo_within}
use Rattle.decided_axis.specs.Bodies.{FitABody}
use Rattle.echo_channels.specs.Channels.{channel_of}
use Rattle.echo_channels.specs.Laws.{BodyIsSmall, ChannelIsLarge, ChannelIsSmall}

-- ---- a channel
back_size : (bin late : ℕ) → IsOfSize 1048577 (conjugate (turn_at (bin * late)))
back_size bin late = size-conjugate 1048577 (turn_at (bin * late)) (turn-size (bin * late))

pub channel_size : (taps : List Cx) (bin : ℕ) → IsEcho taps → IsOfSize (1280 * 1048577) (channel_of taps bin)
channel_size taps bin echo = echo_of_size taps 1048577 (λ late. conjugate (turn_at (bin * late))) echo (back_size bin)

pub channel_is_small : ChannelIsSmall
channel_is_small taps bin echo =
    wider (1000 * (1280 * 1048577)) (1251 * 2 ^ 30) _ (omega arith) (size-multiple 1000 (1280 * 1048577) (channel_of taps bin) (channel_size taps bin echo))

-- what comes at once
abbrev first : Cx
first = record { re = pos 1073741824; im = pos 0 }

first_is : (taps : List Cx) (bin : ℕ) → IsEcho taps → times (entry taps 0) (conjugate (turn_at (bin * 0))) ≡ first
unfolding times turn_at
first_is taps bin echo = let none : bin * 0 ≡ 0 = omega arith in rw (echo.main, none) refl

beside_first : (taps : List Cx) (bin : ℕ) → IsEcho taps → IsOfSize (256 * 1048577) (minus (channel_of taps bin) first)
beside_first taps bin echo =
    subst (λ a. IsOfSize (256 * 1048577) (minus (channel_of taps bin) a)) (first_is taps bin echo) (echo_beside_first taps 1048577 (λ late. conjugate (turn_at (bin * late))) echo (back_size bin))

not_less : (g : Cx) → IsOfSize (256 * 1048577) (minus g first) → IsOfSize 805306111 g → ⊥
not_less g others small =
    let both : IsOfSize (805306111 + 256 * 1048577) first = subst (IsOfSize (805306111 + 256 * 1048577)) (minus_minus g first) (size-minus 805306111 (256 * 1048577) g (minus g first) small others) in
    omega (arith, size_to_nat (pos 1073741824) (pos 0) (805306111 + 256 * 1048577) both.size)

pub channel_large : (taps : List Cx) (bin : ℕ) → IsEcho taps → IsAtLeastOfSize 805306111 (channel_of taps bin)
channel_large taps bin echo =
    let g = channel_of taps bin in
    let m = unsigned_abs g.re * unsigned_abs g.re + unsigned_abs g.im * unsigned_abs g.im in
    elim (cases_lt m (805306111 * 805306111)) [
      | inl small ↦ absurd (not_less g (beside_first taps bin echo) (record { size = size_of_nat g.re g.im 805306111 (omega arith) }))
      | inr past ↦ record { size = rw (sum_of_squares_is g.re g.im) (pos-le (805306111 * 805306111) m past) }
    ]

pub channel_is_large : ChannelIsLarge
channel_is_large taps bin echo =
    let g = channel_of taps bin in
    let m = unsigned_abs g.re * unsigned_abs g.re + unsigned_abs g.im * unsigned_abs g.im in
    let large = channel_large taps bin echo in
    let least : 805306111 * 805306111 ≤ m = le_of_pos-le (805306111 * 805306111) m (rw (sum_of_squares_is g.re g.im) at large.size) in
    record { size = rw (sum_of_squares-scaled (pos 1000) g.re g.im, sum_of_squares_is g.re g.im) (pos-le (749 * 2 ^ 30 * (749 * 2 ^ 30)) (1000 * 1000 * m) (omega (arith, least))) }

-- ---- bodies
pub plain_part : (carried : ℕ → Cx) (n : ℕ) → FitABody carried → IsWithin (50112 * 1048577) (plain_body carried n)
plain_part carried n fit =
    rw (plain_body-local carried (entry (all_times carried)) (λ bin lt. sym (entry-map carried 64 bin lt)) n) (plain_within (all_times carried) fit.fits n)

pub body_is_small : BodyIsSmall
body_is_small taps carried n echo fit = echo_within taps (50112 * 1048577) (λ late. plain_body carried (n + 64 - late)) echo (λ late. plain_part carried (n + 64 - late) fit)
