-- The sizes of points, and the groups of bits that points near them give back.
use Rattle.std.proofs.Common.{◌≡◌, ℕ, ◌+◌, ◌≤◌, List, ◌++◌, length, take, drop, replicate, ap, sym, ◌∙◌, append_assoc, arith, length-drop, pos}
use Rattle.std.proofs.Math.Seq.{take-add}
use Rattle.std.proofs.lemmas.List.{length-take-le, take-append-le, take_all}
use Rattle.std.proofs.lemmas.List.Elements.{All-drop, All-take}
use Rattle.integer_laws.proofs.Sizes.{size_of_parts}
use Rattle.bit_lists.specs.Bits.{AreBits, IsBit}
use Rattle.fixed_complex.specs.declared.Cx.{Cx}
use Rattle.fixed_complex.specs.Pairs.{IsOfSize}
use Rattle.rate_table.specs.declared.Modulation.{Modulation}
use Rattle.rate_table.specs.declared.Modulation.TheVariants.{Bpsk, Qpsk, Qam16, Qam64}
use Rattle.rate_table.specs.Table.{bits_of_modulation}
use Rattle.constellations.specs.Decisions.{IsNear, axis_decided, decided}
use Rattle.constellations.specs.Points.{point_of}
use Rattle.constellations.proofs.AxisSizes.{axis_size}
use Rattle.constellations.proofs.Nearness.{gives_back}
use Rattle.decided_axis.specs.Channels.{size_of_point}

-- ---- sizes
-- the bits of an axis among those of a group
front : (width : ℕ) (group : List ℕ) → AreBits group → AreBits (take width group)
front width group are = All-take IsBit width group are

back : (width : ℕ) (group : List ℕ) → AreBits group → AreBits (take width (drop width group))
back width group are = All-take IsBit width (drop width group) (All-drop IsBit width group are)

long_back : (width : ℕ) (group : List ℕ) → width + width ≤ length group → length (take width (drop width group)) ≡ width
long_back width group enough = length-take-le width (drop width group) (omega (arith, length-drop width group))

pub point_size : (modulation : Modulation) (group : List ℕ) → AreBits group → length group ≡ bits_of_modulation modulation → IsOfSize (size_of_point modulation) (point_of modulation group)
unfolding point_of
point_size Bpsk group are long =
    let i = axis_size Bpsk (take 1 group) (front 1 group are) (length-take-le 1 group (omega arith)) in
    record { size = size_of_parts _ (pos 0) 648 0 648 i (omega arith) (omega arith) }
point_size Qpsk group are long =
    let i = axis_size Qpsk (take 1 group) (front 1 group are) (length-take-le 1 group (omega arith)) in
    let q = axis_size Qpsk (take 1 (drop 1 group)) (back 1 group are) (long_back 1 group (omega arith)) in
    record { size = size_of_parts _ _ 458 458 648 i q (omega arith) }
point_size Qam16 group are long =
    let i = axis_size Qam16 (take 2 group) (front 2 group are) (length-take-le 2 group (omega arith)) in
    let q = axis_size Qam16 (take 2 (drop 2 group)) (back 2 group are) (long_back 2 group (omega arith)) in
    record { size = size_of_parts _ _ 615 615 870 i q (omega arith) }
point_size Qam64 group are long =
    let i = axis_size Qam64 (take 3 group) (front 3 group are) (length-take-le 3 group (omega arith)) in
    let q = axis_size Qam64 (take 3 (drop 3 group)) (back 3 group are) (long_back 3 group (omega arith)) in
    record { size = size_of_parts _ _ 700 700 990 i q (omega arith) }

-- ---- groups given back
-- the bits of both axes, with others behind them, begin with the group
joined : (width : ℕ) (group rest : List ℕ) → length group ≡ width + width → take (width + width) (take width group ++ (take width (drop width group) ++ rest)) ≡ group
joined width group rest long =
    let halves : take width group ++ take width (drop width group) ≡ group = sym (take-add width width group) ∙ take_all _ group (omega arith) in
    let regrouped : take width group ++ (take width (drop width group) ++ rest) ≡ group ++ rest = sym (append_assoc (take width group) (take width (drop width group)) rest) ∙ ap (λ l. l ++ rest) halves in
    ap (take (width + width)) regrouped ∙ take-append-le (width + width) group rest (omega arith) ∙ take_all _ group (omega arith)

pub bits_back : (modulation : Modulation) (group : List ℕ) (z : Cx) (m : ℕ) → AreBits group → length group ≡ bits_of_modulation modulation → IsNear modulation (point_of modulation group) z m → take (bits_of_modulation modulation) (decided modulation z (pos m)) ≡ group
unfolding point_of decided
bits_back Bpsk group z m are long near =
    let i : axis_decided Bpsk z.re (pos m) ≡ take 1 group = gives_back Bpsk (take 1 group) (front 1 group are) (length-take-le 1 group (omega arith)) z.re m near.i in
    let rest : List ℕ = replicate 5 0 in
    rw i (take-append-le 1 (take 1 group) rest (omega (arith, length-take-le 1 group (omega arith))) ∙ take_all 1 (take 1 group) (omega (arith, length-take-le 1 group (omega arith))) ∙ take_all 1 group (omega arith))
bits_back Qpsk group z m are long near =
    let i : axis_decided Qpsk z.re (pos m) ≡ take 1 group = gives_back Qpsk (take 1 group) (front 1 group are) (length-take-le 1 group (omega arith)) z.re m near.i in
    let q : axis_decided Qpsk z.im (pos m) ≡ take 1 (drop 1 group) = gives_back Qpsk (take 1 (drop 1 group)) (back 1 group are) (long_back 1 group (omega arith)) z.im m (near.q (λ e. cc)) in
    rw (i, q) (joined 1 group (replicate 4 0) long)
bits_back Qam16 group z m are long near =
    let i : axis_decided Qam16 z.re (pos m) ≡ take 2 group = gives_back Qam16 (take 2 group) (front 2 group are) (length-take-le 2 group (omega arith)) z.re m near.i in
    let q : axis_decided Qam16 z.im (pos m) ≡ take 2 (drop 2 group) = gives_back Qam16 (take 2 (drop 2 group)) (back 2 group are) (long_back 2 group (omega arith)) z.im m (near.q (λ e. cc)) in
    rw (i, q) (joined 2 group (replicate 2 0) long)
bits_back Qam64 group z m are long near =
    let i : axis_decided Qam64 z.re (pos m) ≡ take 3 group = gives_back Qam64 (take 3 group) (front 3 group are) (length-take-le 3 group (omega arith)) z.re m near.i in
    let q : axis_decided Qam64 z.im (pos m) ≡ take 3 (drop 3 group) = gives_back Qam64 (take 3 (drop 3 group)) (back 3 group are) (long_back 3 group (omega arith)) z.im m (near.q (λ e. cc)) in
    rw (i, q) (ap (take 6) (sym (take-add 3 3 group)) ∙ take_all 6 (take 6 group) (omega (arith, length-take-le 6 group (omega arith))) ∙ take_all 6 group (omega arith))
