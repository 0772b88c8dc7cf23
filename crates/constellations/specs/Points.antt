-- The points of the four modulations (IEEE Std 802.11-2012, 18.3.5.8).
use Rattle.std.specs.Prelude.{ℕ, List, take, drop, pos}
use Rattle.fixed_complex.specs.declared.Cx.{Cx}
use Rattle.rate_table.specs.declared.Modulation.{Modulation}
use Rattle.rate_table.specs.declared.Modulation.TheVariants.{Bpsk, Qpsk, Qam16, Qam64}
use Rattle.constellations.specs.Axes.{axis_width, axis_of}

-- the bits of I: the first ones
abbrev pub bits_of_i : Modulation → List ℕ → List ℕ
bits_of_i modulation bits = take (axis_width modulation) bits

-- the bits of Q: as many, behind those of I
abbrev pub bits_of_q : Modulation → List ℕ → List ℕ
bits_of_q modulation bits = take (axis_width modulation) (drop (axis_width modulation) bits)

-- the point of bits: in BPSK its Q is 0
unfoldable pub point_of : Modulation → List ℕ → Cx
point_of Bpsk bits = record { re = axis_of Bpsk (bits_of_i Bpsk bits); im = pos 0 }
point_of Qpsk bits =
    record { re = axis_of Qpsk (bits_of_i Qpsk bits); im = axis_of Qpsk (bits_of_q Qpsk bits) }
point_of Qam16 bits =
    record { re = axis_of Qam16 (bits_of_i Qam16 bits); im = axis_of Qam16 (bits_of_q Qam16 bits) }
point_of Qam64 bits =
    record { re = axis_of Qam64 (bits_of_i Qam64 bits); im = axis_of Qam64 (bits_of_q Qam64 bits) }
