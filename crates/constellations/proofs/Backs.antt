-- A point whose axes are near gives its bits back.
use Rattle.std.proofs.Common.{◌≡◌, ℕ, ◌*◌, ◌<◌, ◌≤◌, List, ◌++◌, length, drop, replicate, ℤ, pos, refl, ap, append_assoc, arith, length-drop}
use Rattle.std.proofs.Math.Seq.{take-add}
use Rattle.std.proofs.lemmas.List.{length-take-le}
use Rattle.std.proofs.lemmas.List.Elements.{All-take, All-drop}
use Rattle.bit_lists.specs.Bits.{AreBits, IsBit}
use Rattle.fixed_complex.specs.declared.Cx.{Cx}
use Rattle.rate_table.specs.declared.Modulation.{Modulation}
use Rattle.rate_table.specs.declared.Modulation.TheVariants.{Bpsk, Qpsk, Qam16, Qam64}
use Rattle.constellations.specs.Axes.{axis_of, axis_width}
use Rattle.constellations.specs.Points.{bits_of_i, bits_of_q, point_of}
use Rattle.constellations.specs.Decisions.{IsExactly, IsNear, IsNearAxis, axis_decided, decided, used_bits}
use Rattle.constellations.proofs.Nearness.{gives_back, near_from_exact}

-- both axes have their bits among six
widths : (modulation : Modulation) → 2 * axis_width modulation ≤ 6
widths Bpsk = omega arith
widths Qpsk = omega arith
widths Qam16 = omega arith
widths Qam64 = omega arith

module _ (modulation : Modulation) (bits : List ℕ) (are : AreBits bits) (six : length bits ≡ 6) (part : ℤ) (m : ℕ) where
  i_back : IsNearAxis modulation (axis_of modulation (bits_of_i modulation bits)) part m → axis_decided modulation part (pos m) ≡ bits_of_i modulation bits
  i_back =
      gives_back modulation (bits_of_i modulation bits) (All-take IsBit (axis_width modulation) bits are)
      (length-take-le (axis_width modulation) bits (omega (arith, widths modulation))) part m

  q_back : IsNearAxis modulation (axis_of modulation (bits_of_q modulation bits)) part m → axis_decided modulation part (pos m) ≡ bits_of_q modulation bits
  q_back =
      let w = axis_width modulation in
      gives_back modulation (bits_of_q modulation bits) (All-take IsBit w (drop w bits) (All-drop IsBit w bits are))
      (length-take-le w (drop w bits) (omega (arith, widths modulation, length-drop w bits))) part m

pub near_gives_back : (modulation : Modulation) (bits : List ℕ) (z : Cx) (m : ℕ) → AreBits bits → length bits ≡ 6 → IsNear modulation (point_of modulation bits) z m → decided modulation z (pos m) ≡ used_bits modulation bits
unfolding point_of decided
near_gives_back Bpsk bits z m are six near = ap (λ l. l ++ replicate 5 0) (i_back Bpsk bits are six z.re m near.i)
near_gives_back Qpsk bits z m are six near =
    let i = i_back Qpsk bits are six z.re m near.i in
    let q = q_back Qpsk bits are six z.im m (near.q (λ e. cc)) in
    rw (i, q, take-add 1 1 bits, append_assoc) refl
near_gives_back Qam16 bits z m are six near =
    let i = i_back Qam16 bits are six z.re m near.i in
    let q = q_back Qam16 bits are six z.im m (near.q (λ e. cc)) in
    rw (i, q, take-add 2 2 bits, append_assoc) refl
near_gives_back Qam64 bits z m are six near =
    let i = i_back Qam64 bits are six z.re m near.i in
    let q = q_back Qam64 bits are six z.im m (near.q (λ e. cc)) in
    rw (i, q, take-add 3 3 bits) refl

pub exact_gives_back : (modulation : Modulation) (bits : List ℕ) (z : Cx) (m : ℕ) → AreBits bits → length bits ≡ 6 → 0 < m → IsExactly (point_of modulation bits) z m → decided modulation z (pos m) ≡ used_bits modulation bits
exact_gives_back modulation bits z m are six some exact =
    near_gives_back modulation bits z m are six (record {
      i = near_from_exact modulation (point_of modulation bits).re z.re m some exact.i;
      q = λ _. near_from_exact modulation (point_of modulation bits).im z.im m some exact.q;
    })
