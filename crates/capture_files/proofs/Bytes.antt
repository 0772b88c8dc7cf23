-- Samples and their bytes.
use Rattle.std.proofs.Common.{◌≡◌, ℕ, ◌+◌, ◌-◌, ◌*◌, ◌^◌, ◌<◌, ◌≤◌, List, [], ◌∷◌, ◌++◌, length, take, drop, ℤ, Fits, FitsSigned, refl, sym, ap, ◌∙◌, arith, length-append, append_assoc, append-nil, get_or}
use Rattle.std.specs.Prelude.{slice_index}
use Rattle.std.specs.Int.{w16, byte_at, bytes_low_first, cast_signed, cast_unsigned}
use Rattle.std.proofs.lemmas.Int.{of_z-to_z, to_z-of_z}
use Rattle.std.proofs.lemmas.Grind.{common_steps, flat_map-append}
use Rattle.std.proofs.lemmas.List.{drop_all, length-take-le, take_all, take_at, take_more}
use Rattle.std.proofs.lemmas.List.Elements.{All-head, All-tail}
use Rattle.std.proofs.Math.Facts.{Fits-of_z}
use Rattle.std.proofs.Math.Seq.{take-add}
use Rattle.byteorder.specs.Endian.{little_number}
use Rattle.fixed_complex.specs.declared.Sample.{Sample}
use Rattle.capture_files.specs.Captures.{bytes_of_component, bytes_of_sample, bytes_of_samples, component_in, samples_in}
use Rattle.fixed_complex.specs.Samples.{AreSamples, IsSample}
use borrow.Rule.Slice.PartMut.{post_of, put_mid}
use Rattle.fixed_complex.proofs.Samples.{same_sample}

-- the number of two bytes is below 2^16
number_fits : (a b : ℕ) (rest : List ℕ) → a < 256 → b < 256 → little_number 2 (a ∷ b ∷ rest) < 2 ^ 16
number_fits a b rest p q = omega arith

-- the bytes of the component that two bytes are
component_read : (a b : ℕ) (rest : List ℕ) → a < 256 → b < 256 → bytes_of_component (cast_signed w16 (little_number 2 (a ∷ b ∷ rest))) ≡ a ∷ b ∷ []
unfolding bytes_of_component
component_read a b rest p q =
    let n : ℕ = little_number 2 (a ∷ b ∷ rest) in
    let low : byte_at 0 n ≡ a = omega arith in
    let high : byte_at 1 n ≡ b = omega arith in
    rw (of_z-to_z w16 n (number_fits a b rest p q), low, high) refl

-- the bytes of the sample that four bytes are
pub sample_read : (xs : List ℕ) (i q : ℤ) → length xs ≡ 4 → ((k : ℕ) → k < length xs → slice_index xs k < 256) → i ≡ cast_signed w16 (little_number 2 xs) → q ≡ cast_signed w16 (little_number 2 (take (length xs - 2) (drop 2 xs))) → bytes_of_sample (record { i = i; q = q }) ≡ xs
unfolding bytes_of_sample
sample_read (a ∷ b ∷ c ∷ d ∷ []) i q l f at_i at_q =
    rw (at_i, at_q, component_read a b (c ∷ d ∷ []) (f 0 (omega arith)) (f 1 (omega arith)), component_read c d [] (f 2 (omega arith)) (f 3 (omega arith))) refl
sample_read [] i q l f at_i at_q = absurd (omega arith)
sample_read (a ∷ []) i q l f at_i at_q = absurd (omega arith)
sample_read (a ∷ b ∷ []) i q l f at_i at_q = absurd (omega arith)
sample_read (a ∷ b ∷ c ∷ []) i q l f at_i at_q = absurd (omega arith)
sample_read (a ∷ b ∷ c ∷ d ∷ e ∷ xs) i q l f at_i at_q = absurd (omega arith)

-- two bytes and then two more stand in front of a buffer's rest
put_behind : (x y z w : ℕ) (rest one two : List ℕ) → one ≡ x ∷ y ∷ rest → two ≡ z ∷ w ∷ drop 2 (take (length one - 2) (drop 2 one)) → put_mid 2 (length one - 2) one two ≡ x ∷ y ∷ z ∷ w ∷ drop 2 rest
put_behind x y z w rest one two at_one at_two =
    let count : length one - 2 ≡ length rest = rw at_one (omega arith) in
    let front : take (length rest) rest ≡ rest = take_all (length rest) rest (omega arith) in
    let behind : drop (length rest) rest ≡ [] = drop_all (length rest) rest (omega arith) in
    rw (count, at_two, count, at_one, front, behind) (append-nil (x ∷ y ∷ z ∷ w ∷ drop 2 rest))

-- the bytes of a sample stand in front of a buffer once both components are put
pub sample_put : (i q : ℤ) (old one two : List ℕ) → FitsSigned w16 i → FitsSigned w16 q → one ≡ bytes_low_first 0 2 (cast_unsigned w16 (cast_signed w16 (cast_unsigned w16 i))) ++ drop 2 old → two ≡ bytes_low_first 0 2 (cast_unsigned w16 (cast_signed w16 (cast_unsigned w16 q))) ++ drop 2 (take (length one - 2) (drop 2 one)) → put_mid 2 (length one - 2) one two ≡ bytes_of_sample (record { i = i; q = q }) ++ drop 4 old
unfolding bytes_of_sample bytes_of_component
sample_put i q old one two p r at_one at_two =
    let rest : drop 4 old ≡ drop 2 (drop 2 old) = grind (arith, common_steps) in
    rw rest (put_behind _ _ _ _ (drop 2 old) one two (rw (to_z-of_z w16 i p) at at_one) (rw (to_z-of_z w16 q r) at at_two))

-- a sample has four bytes
pub length-bytes_of_sample : (sample : Sample) → length (bytes_of_sample sample) ≡ 4
unfolding bytes_of_sample bytes_of_component
length-bytes_of_sample sample = refl

-- samples have four bytes each
pub length-bytes_of_samples : (samples : List Sample) → length (bytes_of_samples samples) ≡ 4 * length samples
length-bytes_of_samples [] = refl
length-bytes_of_samples (sample ∷ samples) =
    omega (arith, length-append (bytes_of_sample sample) (bytes_of_samples samples), length-bytes_of_sample sample, length-bytes_of_samples samples)

-- .. and those of a sample that isn't whole
pub length-bytes_so_far : (samples : List Sample) (held : List ℕ) → length (bytes_of_samples samples ++ held) ≡ 4 * length samples + length held
length-bytes_so_far samples held = omega (arith, length-append (bytes_of_samples samples) held, length-bytes_of_samples samples)

-- no other component has the same bytes
component_alike : (a b : ℤ) → FitsSigned w16 a → FitsSigned w16 b → byte_at 0 (cast_unsigned w16 a) ≡ byte_at 0 (cast_unsigned w16 b) → byte_at 1 (cast_unsigned w16 a) ≡ byte_at 1 (cast_unsigned w16 b) → a ≡ b
component_alike a b p q low high =
    let fits_a : Fits w16 (cast_unsigned w16 a) = Fits-of_z p in
    let fits_b : Fits w16 (cast_unsigned w16 b) = Fits-of_z q in
    let same : cast_unsigned w16 a ≡ cast_unsigned w16 b = omega (arith, low, high, fits_a, fits_b) in
    sym (to_z-of_z w16 a p) ∙ ap (cast_signed w16) same ∙ to_z-of_z w16 b q

-- the bytes of samples determine the samples
pub samples_alike : (a b : List Sample) → AreSamples a → AreSamples b → bytes_of_samples a ≡ bytes_of_samples b → a ≡ b
unfolding bytes_of_sample bytes_of_component
samples_alike [] [] p q e = refl
samples_alike [] (y ∷ b) p q e = absurd (cc)
samples_alike (x ∷ a) [] p q e = absurd (cc)
samples_alike (x ∷ a) (y ∷ b) p q e =
    let is_x : IsSample x = All-head IsSample x a p in
    let is_y : IsSample y = All-head IsSample y b q in
    let byte = λ (k : ℕ). ap (λ (l : List ℕ). slice_index l k) e in
    let i : x.i ≡ y.i = component_alike x.i y.i is_x.i is_y.i (byte 0) (byte 1) in
    let q' : x.q ≡ y.q = component_alike x.q y.q is_x.q is_y.q (byte 2) (byte 3) in
    let rest : a ≡ b = samples_alike a b (All-tail IsSample x a p) (All-tail IsSample y b q) (ap (λ (l : List ℕ). drop 4 l) e) in
    let same : x ≡ y = same_sample x y i q' in
    rw (rest, same) refl

-- a component is that of its bytes
component_back : (x : ℤ) → FitsSigned w16 x → component_in (byte_at 0 (cast_unsigned w16 x)) (byte_at 1 (cast_unsigned w16 x)) ≡ x
unfolding component_in
component_back x p =
    let fits : Fits w16 (cast_unsigned w16 x) = Fits-of_z p in
    let n = cast_unsigned w16 x in
    let same : byte_at 0 n + 256 * byte_at 1 n ≡ n = omega (arith, fits) in
    ap (cast_signed w16) same ∙ to_z-of_z w16 x p

-- samples are those of their bytes
pub samples_back : (samples : List Sample) → AreSamples samples → samples_in (bytes_of_samples samples) ≡ samples
unfolding samples_in bytes_of_sample bytes_of_component
samples_back [] p = refl
samples_back (x ∷ samples) p =
    let is : IsSample x = All-head IsSample x samples p in
    let first : Sample = record { i = component_in (byte_at 0 (cast_unsigned w16 x.i)) (byte_at 1 (cast_unsigned w16 x.i)); q = component_in (byte_at 0 (cast_unsigned w16 x.q)) (byte_at 1 (cast_unsigned w16 x.q)) } in
    let same : first ≡ x = same_sample first x (component_back x.i is.i) (component_back x.q is.q) in
    ap (λ (s : Sample). s ∷ samples_in (bytes_of_samples samples)) same ∙ ap (λ (s : List Sample). x ∷ s) (samples_back samples (All-tail IsSample x samples p))

-- one sample more is read
pub samples_more : (samples : List Sample) (sample : Sample) (bytes : List ℕ) (k : ℕ) → bytes_of_samples samples ≡ take (4 * k) bytes → bytes_of_sample sample ≡ take (4 * k + 4 - 4 * k) (drop (4 * k) bytes) → bytes_of_samples (samples ++ sample ∷ []) ≡ take (4 * (k + 1)) bytes
samples_more samples sample bytes k before more =
    let count : 4 * k + 4 - 4 * k ≡ 4 = omega arith in
    let end : 4 * (k + 1) ≡ 4 * k + 4 = omega arith in
    rw (end, take-add (4 * k) 4 bytes, flat_map-append, append-nil, before, more, count) refl

-- one sample more is put into a piece
pub piece_more : (samples : List Sample) (none : Sample) (piece put rest : List ℕ) (k size : ℕ) → k < length samples → 4 * k ≤ length piece → take (4 * k) piece ≡ bytes_of_samples (take k samples) → put ≡ bytes_of_sample (get_or samples k none) ++ rest → take (4 * (k + 1)) (put_mid (4 * k) size piece put) ≡ bytes_of_samples (take (k + 1) samples)
piece_more samples none piece put rest k size within room before more =
    let sample = get_or samples k none in
    let front : List ℕ = take (4 * k) piece in
    let count : length (front ++ bytes_of_sample sample) ≡ 4 * (k + 1) =
    omega (arith, length-append front (bytes_of_sample sample), length-take-le (4 * k) piece room, length-bytes_of_sample sample) in
    let behind : List ℕ = post_of (4 * k) size piece in
    let whole : put_mid (4 * k) size piece put ≡ (front ++ bytes_of_sample sample) ++ (rest ++ behind) =
    rw more (ap (λ (r : List ℕ). front ++ r) (append_assoc (bytes_of_sample sample) rest behind) ∙ sym (append_assoc front (bytes_of_sample sample) (rest ++ behind))) in
    rw (whole, take_at (front ++ bytes_of_sample sample) (rest ++ behind) (4 * (k + 1)) count, before, take_more samples k none within, flat_map-append, append-nil) refl
