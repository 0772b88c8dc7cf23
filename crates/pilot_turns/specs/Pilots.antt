-- The turn of a symbol by its pilots (own; the pilots are those of IEEE Std 802.11-2012, 18.3.5.9 and 18.3.5.10).
use Rattle.std.specs.Prelude.{ℕ, ◌*◌, ◌==◌, List, ℤ, pos, ◌+ℤ◌, ◌-ℤ◌, ◌*ℤ◌, if◌then◌else◌}
use Rattle.std.specs.List.{range_with_len, sum_by}
use Rattle.integer_laws.specs.Floor.{floor_div}
use Rattle.fixed_complex.specs.declared.Cx.{Cx}
use Rattle.fixed_complex.specs.Laws.{sum_below}
use Rattle.fixed_complex.specs.PairLists.{entry}
use Rattle.fixed_complex.specs.Pairs.{conjugate, multiple, squared_size, times}
use Rattle.lane_kernels.specs.Kernels.{held}
use Rattle.carrier_bins.specs.Carriers.{bin_of}
use Rattle.symbol_builder.specs.Carriers.{pilot_sign_of, polarity_of}

-- the carriers of the four pilots, k from 0 to 3: -21, -7, 7 and 21; and their bins
abbrev pub pilot_carrier : ℕ → ℤ
pilot_carrier k = pos (14 * k) -ℤ pos 21

abbrev pub pilot_bin : ℕ → ℕ
pilot_bin k = bin_of (pilot_carrier k)

-- the sign of pilot k in symbol n: its own times the polarity
abbrev pub sign_of_pilot : ℕ → ℕ → ℤ
sign_of_pilot n k = polarity_of n *ℤ pilot_sign_of (pilot_carrier k)

-- what was received of a pilot times the conjugate of the channel there, with the pilot's sign
abbrev pub pilot_back : List Cx → List Cx → ℕ → ℕ → Cx
pilot_back estimate symbol n k =
    multiple (sign_of_pilot n k)
    (times (entry symbol (pilot_bin k)) (conjugate (entry estimate (pilot_bin k))))

-- P, the sum of these over the four pilots
unfoldable pub pilots_back : List Cx → List Cx → ℕ → Cx
pilots_back estimate symbol n = sum_below 4 (pilot_back estimate symbol n)

-- M, the sum of the squares of the channel's sizes at the four pilots
unfoldable pub pilots_weight : List Cx → ℕ
pilots_weight estimate =
    sum_by (λ k. squared_size (entry estimate (pilot_bin k))) (range_with_len 0 4)

-- 32768 times a part over a weight, rounded half up and held within -32768 to 32767
abbrev pub turn_part : ℕ → ℤ → ℤ
turn_part weight part = held (floor_div (pos 65536 *ℤ part +ℤ pos weight) (2 * weight))

-- the turn of symbol n, over 16384: 32768 P over M, part by part, and no turn where M is 0
unfoldable pub turn_by_pilots : List Cx → List Cx → ℕ → Cx
turn_by_pilots estimate symbol n =
    let weight = pilots_weight estimate in
    let sum = pilots_back estimate symbol n in
    if weight == 0 then record { re = pos 16384; im = pos 0 }
    else record { re = turn_part weight sum.re; im = turn_part weight sum.im }
