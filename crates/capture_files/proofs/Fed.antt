-- Bytes that are fed to a piecer.
use Rattle.std.proofs.Common.{◌≡◌, ◌≢◌, ◌⊎◌, inl, inr, ℕ, ◌+◌, ◌-◌, ◌*◌, ◌/◌, ◌<◌, ◌≤◌, List, [], ◌∷◌, min, Option, Some, None, ◌++◌, length, take, drop, refl, sym, ap, ◌∙◌, arith, length-append, append_assoc, append-nil}
use Rattle.std.specs.Option.{IfNone}
use Rattle.std.proofs.lemmas.Grind.{common_steps, flat_map-append}
use Rattle.std.proofs.lemmas.List.{length-take-le, take_at, take-append-drop}
use Rattle.std.proofs.lemmas.List.Elements.{All-append}
use Rattle.fixed_complex.specs.declared.Sample.{Sample}
use Rattle.fixed_complex.specs.Samples.{AreSamples, IsSample}
use Rattle.capture_files.specs.Captures.{bytes_of_sample, bytes_of_samples}
use borrow.Rule.Slice.PartMut.{post_of, put_mid}

-- the front of samples behind some of which others were put
front_put : (count whole size : ℕ) (out new : List Sample) → count ≤ length out → length new ≡ whole → take (count + whole) (put_mid count size out new) ≡ take count out ++ new
front_put count whole size out new room long =
    let front = take count out in
    let behind = post_of count size out in
    let count_is : length (front ++ new) ≡ count + whole = omega (arith, length-append front new, length-take-le count out room, long) in
    ap (take (count + whole)) (sym (append_assoc front new behind)) ∙ take_at (front ++ new) behind (count + whole) count_is

-- what was begun, what was whole, and what is held behind them, are all that was held and fed
pub fed : (count whole size : ℕ) (out new : List Sample) (old begun middle rest held held' : List ℕ) → count ≤ length out → length new ≡ whole
    → bytes_of_samples (take count out) ++ held ≡ old ++ begun → bytes_of_samples new ≡ middle → (held ≡ []) ⊎ (middle ≡ []) → held' ≡ held ++ rest
    → bytes_of_samples (take (count + whole) (put_mid count size out new)) ++ held' ≡ old ++ (begun ++ (middle ++ rest))
fed count whole size out new old begun middle rest held held' room long first second none third =
    let front = bytes_of_samples (take count out) in
    let joined : bytes_of_samples (take (count + whole) (put_mid count size out new)) ≡ front ++ middle =
    rw (front_put count whole size out new room long, flat_map-append bytes_of_sample (take count out) new, second) refl in
    let swapped : middle ++ held ≡ held ++ middle = elim none [ inl is ↦ rw is (append-nil middle) | inr is ↦ rw is (sym (append-nil held)) ] in
    rw (joined, third)
    (append_assoc front middle (held ++ rest)
    ∙ ap (λ l. front ++ l) (sym (append_assoc middle held rest) ∙ ap (λ l. l ++ rest) swapped ∙ append_assoc held middle rest)
    ∙ sym (append_assoc front held (middle ++ rest)) ∙ ap (λ l. l ++ (middle ++ rest)) first ∙ append_assoc old begun (middle ++ rest))

pub fed_samples : (count whole size : ℕ) (out new : List Sample) → count ≤ length out → length new ≡ whole → AreSamples (take count out) → AreSamples new
    → AreSamples (take (count + whole) (put_mid count size out new))
fed_samples count whole size out new room long first second =
    rw (front_put count whole size out new room long) (All-append IsSample (take count out) new first second)

-- bytes are cut twice
pub cut_twice : (bytes : List ℕ) (at to : ℕ) → at ≤ to → to ≤ length bytes → take at bytes ++ (take (to - at) (drop at bytes) ++ take (length bytes - to) (drop to bytes)) ≡ bytes
cut_twice bytes at to before within =
    let end : take (length bytes - to) (drop to bytes) ≡ drop to bytes = grind (arith, common_steps) in
    let behind : drop to bytes ≡ drop (to - at) (drop at bytes) = grind (arith, common_steps) in
    ap (λ l. take at bytes ++ (take (to - at) (drop at bytes) ++ l)) (end ∙ behind)
    ∙ ap (λ l. take at bytes ++ l) (take-append-drop (to - at) (drop at bytes)) ∙ take-append-drop at bytes

-- where no sample came of what was begun, none was begun, or no byte is left
pub nothing_begun : (old bytes held : List ℕ) (wanted begun : ℕ) → (old ≢ [] → wanted + length old ≡ 4) → (old ≡ [] → wanted ≡ 0) → begun ≡ min wanted (length bytes)
    → held ≡ old ++ take begun bytes → length old + length (take begun bytes) < 4
    → (held ≡ []) ⊎ (take (begun + 4 * ((length bytes - begun) / 4) - begun) (drop begun bytes) ≡ [])
nothing_begun [] bytes held wanted begun some none least is few =
    let zero_is : begun ≡ 0 = omega (arith, none refl, least) in
    inl (is ∙ ap (λ n. take n bytes) zero_is)
nothing_begun (first ∷ old) bytes held wanted begun some none least is few =
    let wants = some (λ never. absurd (cc)) in
    let room : begun ≤ length bytes = omega (arith, least) in
    let all : begun ≡ length bytes = omega (arith, wants, least, few, length-take-le begun bytes room) in
    let left : begun + 4 * ((length bytes - begun) / 4) - begun ≡ 0 = omega (arith, all) in
    inr (ap (λ n. take n (drop begun bytes)) left)

-- .. and those behind are few
pub few_held : (old bytes held : List ℕ) (wanted begun : ℕ) → (old ≢ [] → wanted + length old ≡ 4) → (old ≡ [] → wanted ≡ 0) → begun ≡ min wanted (length bytes)
    → held ≡ old ++ take begun bytes → length old + length (take begun bytes) < 4 → length held + (length bytes - (begun + 4 * ((length bytes - begun) / 4))) < 4
few_held [] bytes held wanted begun some none least is few =
    let zero_is : begun ≡ 0 = omega (arith, none refl, least) in
    let held_is : held ≡ [] = is ∙ ap (λ n. take n bytes) zero_is in
    omega (arith, zero_is, ap length held_is)
few_held (first ∷ old) bytes held wanted begun some none least is few =
    let wants = some (λ never. absurd (cc)) in
    let room : begun ≤ length bytes = omega (arith, least) in
    let all : begun ≡ length bytes = omega (arith, wants, least, few, length-take-le begun bytes room) in
    omega (arith, all, few, ap length is, length-append (first ∷ old) (take begun bytes))

pub held_where_none : {P : Type 0} (result : Option Sample) → result ≡ None → IfNone result P → P
held_where_none None is holds = holds
held_where_none (Some sample) is holds = absurd (cc)
