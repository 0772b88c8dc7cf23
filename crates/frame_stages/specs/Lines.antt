-- Texts of pairs and of samples (own).
use Rattle.std.specs.Prelude.{ℕ, List, [], ◌∷◌, ◌++◌, ℤ}
use Rattle.std.specs.List.{flat_map}
use Rattle.std.specs.Fmt.{signed_decimal}
use Rattle.fixed_complex.specs.declared.Cx.{Cx}
use Rattle.fixed_complex.specs.declared.Sample.{Sample}

-- the line `I Q` of two numbers, both in decimal, and a newline
abbrev pub line_of_numbers : ℤ → ℤ → List ℕ
line_of_numbers i q = signed_decimal i ++ 32 ∷ signed_decimal q ++ 10 ∷ []

abbrev pub line_of_pair : Cx → List ℕ
line_of_pair pair = line_of_numbers pair.re pair.im

abbrev pub line_of_sample : Sample → List ℕ
line_of_sample sample = line_of_numbers sample.i sample.q

-- the lines of pairs, one after another
abbrev pub text_of_pairs : List Cx → List ℕ
text_of_pairs pairs = flat_map line_of_pair pairs

-- the lines of samples
abbrev pub text_of_samples : List Sample → List ℕ
text_of_samples samples = flat_map line_of_sample samples
