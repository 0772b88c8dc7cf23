-- A text says one script.
use Rattle.std.proofs.Common.{ℕ, ◌≤◌, ◌≡◌, List, [], ◌∷◌, ◌++◌, All, ℤ, drop, length, inl, refl, sym, ap, ◌∙◌, subst, arith, FitsSigned}
use Rattle.std.proofs.lemmas.Fmt.{decimal_injective}
use Rattle.std.proofs.lemmas.List.Elements.{All-head, All-tail}
use Rattle.std.specs.Fmt.{decimal, signed_decimal}
use Rattle.std.specs.Int.{w16}
use Rattle.noise_script.specs.Items.{IsInRange, item_text}
use Rattle.noise_script.specs.Keys.{key_name, key_of, words_behind}
use Rattle.noise_script.specs.Scripts.{SaysScript, script_text}
use Rattle.noise_script.specs.declared.Item.{Item}
use Rattle.noise_script.specs.declared.Item.TheVariants.{Lead, Trail, Uniform, Spike, Cut}
use Rattle.noise_script.proofs.Items.{item_bare, item_parts, says_component}
use Rattle.noise_script.proofs.Keys.{key_bare, one_key}
use Rattle.word_grammar.specs.Marks.{HasNo}
use Rattle.word_grammar.proofs.Digits.{no_space}
use Rattle.word_grammar.proofs.Marks.{bare_no, seam}
use Rattle.word_grammar.proofs.Signs.{same_signed, signed_bare}

component : (z : ℤ) → FitsSigned w16 z → HasNo 32 (signed_decimal z)
component z h = signed_bare 32 32768 32767 z (signed_decimal z) (inl (omega arith)) (λ e. omega (arith, e)) (omega arith) (omega arith) (says_component z h)

same_component : (y z : ℤ) → FitsSigned w16 y → FitsSigned w16 z → signed_decimal y ≡ signed_decimal z → y ≡ z
same_component y z p q e =
    same_signed 32768 32767 y z (signed_decimal z) (omega arith) (omega arith)
    (record { from = (says_component y p).from; up_to = (says_component y p).up_to; is = sym e }) (says_component z q)

same_behind : (u v : Item) → IsInRange u → IsInRange v → key_of u ≡ key_of v → words_behind u ≡ words_behind v → u ≡ v
same_behind (Lead a) (Lead b) p q k e = ap Lead (decimal_injective a b (omega (arith, p)) (omega (arith, q)) e)
same_behind (Trail a) (Trail b) p q k e = ap Trail (decimal_injective a b (omega (arith, p)) (omega (arith, q)) e)
same_behind (Uniform a s) (Uniform b t) p q k e =
    let apart = seam 32 (decimal a) (decimal b) (decimal s) (decimal t) (no_space a (omega (arith, p.0))) (no_space b (omega (arith, q.0))) e in
    let first : a ≡ b = decimal_injective a b (omega (arith, p.0)) (omega (arith, q.0)) apart.0 in
    let second : s ≡ t = decimal_injective s t p.1 q.1 apart.1 in
    cc
same_behind (Spike a i q) (Spike b j r) g h k e =
    let apart = seam 32 (decimal a) (decimal b) (signed_decimal i ++ 32 ∷ signed_decimal q) (signed_decimal j ++ 32 ∷ signed_decimal r) (no_space a (omega (arith, g.0))) (no_space b (omega (arith, h.0))) e in
    let more = seam 32 (signed_decimal i) (signed_decimal j) (signed_decimal q) (signed_decimal r) (component i g.1) (component j h.1) apart.1 in
    let first : a ≡ b = decimal_injective a b (omega (arith, g.0)) (omega (arith, h.0)) apart.0 in
    let second : i ≡ j = same_component i j g.1 h.1 more.0 in
    let third : q ≡ r = same_component q r g.2 h.2 more.1 in
    cc
same_behind (Cut a s) (Cut b t) p q k e =
    let apart = seam 32 (decimal a) (decimal b) (decimal s) (decimal t) (no_space a (omega (arith, p.0))) (no_space b (omega (arith, q.0))) e in
    let first : a ≡ b = decimal_injective a b (omega (arith, p.0)) (omega (arith, q.0)) apart.0 in
    let second : s ≡ t = decimal_injective s t (omega (arith, p.1)) (omega (arith, q.1)) apart.1 in
    cc
same_behind _ _ p q k e = absurd (cc)

same_item : (u v : Item) → IsInRange u → IsInRange v → item_text u ≡ item_text v → u ≡ v
same_item u v p q e =
    let apart = seam 32 (key_name (key_of u)) (key_name (key_of v)) (words_behind u) (words_behind v) (key_bare 32 (key_of u) (omega arith)) (key_bare 32 (key_of v) (omega arith)) (sym (item_parts u) ∙ e ∙ item_parts v) in
    same_behind u v p q (one_key (key_of u) (key_of v) apart.0) apart.1

bare : (item : Item) → IsInRange item → HasNo 59 (item_text item)
bare item h = item_bare item (item_text item) (record { in_range = h; is = refl })

same_items : (a b : List Item) → All IsInRange a → All IsInRange b → 1 ≤ length a → 1 ≤ length b → script_text a ≡ script_text b → a ≡ b
same_items [] b p q l m e = absurd (omega (arith, l))
same_items (x ∷ a) [] p q l m e = absurd (omega (arith, m))
same_items (x ∷ []) (y ∷ []) p q l m e = ap (λ z. z ∷ []) (same_item x y (All-head IsInRange x [] p) (All-head IsInRange y [] q) e)
same_items (x ∷ []) (y ∷ z ∷ b) p q l m e =
    absurd (bare_no 59 (item_text y) (32 ∷ script_text (z ∷ b)) (subst (HasNo 59) e (bare x (All-head IsInRange x [] p))))
same_items (x ∷ w ∷ a) (y ∷ []) p q l m e =
    absurd (bare_no 59 (item_text x) (32 ∷ script_text (w ∷ a)) (subst (HasNo 59) (sym e) (bare y (All-head IsInRange y [] q))))
same_items (x ∷ w ∷ a) (y ∷ z ∷ b) p q l m e =
    let first : IsInRange x = All-head IsInRange x (w ∷ a) p in
    let other : IsInRange y = All-head IsInRange y (z ∷ b) q in
    let apart = seam 59 (item_text x) (item_text y) (32 ∷ script_text (w ∷ a)) (32 ∷ script_text (z ∷ b)) (bare x first) (bare y other) e in
    let same : x ≡ y = same_item x y first other apart.0 in
    let more : w ∷ a ≡ z ∷ b = same_items (w ∷ a) (z ∷ b) (All-tail IsInRange x (w ∷ a) p) (All-tail IsInRange y (z ∷ b) q) (omega arith) (omega arith) (ap (drop 1) apart.1) in
    cc

-- a text says one script
pub one_script : (most : ℕ) (a b : List Item) (text : List ℕ) → SaysScript most a text → SaysScript most b text → a ≡ b
one_script most a b text p q = same_items a b p.in_range q.in_range p.some q.some (sym p.is ∙ q.is)
