-- Pieces of a capture that a sink takes one after another.
use Rattle.std.proofs.Common.{◌≡◌, ℕ, ◌+◌, ◌*◌, List, ◌++◌, length, min, take, Option, Result, Ok, Err, Vec, Global, vec_len, arith, refl, sym, ap, ◌∙◌, append_assoc, length-append}
use Rattle.std.specs.Prelude.{if◌then◌else◌}
use Rattle.std.specs.Result.{OnOk, is_ok}
use Rattle.std.proofs.lemmas.Grind.{common_steps, flat_map-append}
use Rattle.fixed_complex.specs.declared.Sample.{Sample}
use Rattle.modem_ports.specs.Told.{Gives, GivesBehind, Takes, TakesPrefix}
use Rattle.modem_ports.proofs.Pieces.{Gives-append, Takes-append}
use Rattle.std.proofs.Math.Seq.{take-append-add}
use Rattle.capture_files.specs.Captures.{bytes_of_sample, bytes_of_samples}
use Rattle.capture_files.proofs.Bytes.{length-bytes_so_far}

-- what a source gave, and a piece behind it, are all that it gave
pub gave_more : (before now after : Option (List ℕ)) (bytes all : List ℕ) → Gives before bytes now → GivesBehind now bytes after all → Gives before all after
gave_more before now after bytes all gave behind = rw behind.1 (Gives-append before now after bytes behind.0 gave behind.2)

-- where the samples that a piece makes whole were appended, they and what is held have its bytes behind those before
pub fed_where_ok : {A B : Type 0} (result : Result A B) (old new made : List Sample) (held held' bytes : List ℕ)
    → new ≡ (if is_ok result then old ++ made else old) → bytes_of_samples made ++ held' ≡ held ++ bytes
    → OnOk result (bytes_of_samples new ++ held' ≡ (bytes_of_samples old ++ held) ++ bytes)
fed_where_ok (Ok done) old new made held held' bytes appended fed =
    rw (appended, flat_map-append bytes_of_sample old made)
    (append_assoc (bytes_of_samples old) (bytes_of_samples made) held' ∙ ap (λ l. bytes_of_samples old ++ l) fed ∙ sym (append_assoc (bytes_of_samples old) held bytes))
fed_where_ok (Err fault) old new made held held' bytes appended fed = tt

-- .. and its bytes are counted
pub counted_where_ok : {A B : Type 0} (result : Result A B) (old new : Vec Sample Global) (held held' bytes : List ℕ)
    → OnOk result (bytes_of_samples new.items ++ held' ≡ (bytes_of_samples old.items ++ held) ++ bytes)
    → OnOk result (4 * vec_len new + length held' ≡ 4 * vec_len old + length held + length bytes)
counted_where_ok (Ok done) old new held held' bytes same =
    omega (arith, old.ok.0, new.ok.0, ap length same, length-bytes_so_far new.items held', length-append (bytes_of_samples old.items ++ held) bytes, length-bytes_so_far old.items held)
counted_where_ok (Err fault) old new held held' bytes same = tt

-- a sink took the bytes of the samples that stand before the rest
abbrev pub TakesUpTo : Option (List ℕ) → List Sample → List Sample → Option (List ℕ) → Type 0
TakesUpTo before samples rest after = (done : List Sample) × (samples ≡ done ++ rest) × Takes before (bytes_of_samples done) after

-- one piece more was taken
pub TakesUpTo-more : (before now after : Option (List ℕ)) (samples rest some rest' : List Sample) (bytes : List ℕ) → TakesUpTo before samples rest now → rest ≡ some ++ rest' → bytes ≡ bytes_of_samples some → Takes now bytes after → TakesUpTo before samples rest' after
TakesUpTo-more before now after samples rest some rest' bytes h e same t =
    let done = h.0 in
    let whole : bytes_of_samples (done ++ some) ≡ bytes_of_samples done ++ bytes = rw same (flat_map-append bytes_of_sample done some) in
    (done ++ some, h.1 ∙ ap (λ (r : List Sample). done ++ r) e ∙ sym (append_assoc done some rest'), rw whole (Takes-append before now after _ _ h.2 t))

-- the front of a piece that stands behind what was taken
prefix_behind : (done bytes rest : List ℕ) (count : ℕ) → take (length done + min count (length bytes)) (done ++ (bytes ++ rest)) ≡ done ++ take count bytes
prefix_behind done bytes rest count =
    let front : take (min count (length bytes)) (bytes ++ rest) ≡ take count bytes = grind (arith, common_steps) in
    rw (take-append-add done (bytes ++ rest) (min count (length bytes)), front) refl

-- a prefix of one piece more was taken
pub TakesUpTo-prefix : (before now after : Option (List ℕ)) (samples rest some rest' : List Sample) (bytes : List ℕ) → TakesUpTo before samples rest now → rest ≡ some ++ rest' → bytes ≡ bytes_of_samples some → TakesPrefix now bytes after → TakesPrefix before (bytes_of_samples samples) after
TakesUpTo-prefix before now after samples rest some rest' bytes h e same p =
    let done = h.0 in
    let whole : bytes_of_samples samples ≡ bytes_of_samples done ++ (bytes ++ bytes_of_samples rest') =
    rw (h.1, e, flat_map-append bytes_of_sample done (some ++ rest'), flat_map-append bytes_of_sample some rest', same) refl in
    let count = length (bytes_of_samples done) + min p.0 (length bytes) in
    (count, rw (whole, prefix_behind (bytes_of_samples done) bytes (bytes_of_samples rest') p.0) (Takes-append before now after _ _ h.2 p.1))
