use Rattle.std.proofs.Common.{ℕ, ◌≡◌, max, sym, ◌∙◌, arith}
use Rattle.list_texts.proofs.words.shared_with_rates.Goals as goal

regrouped : (m x y z : ℕ) → m ≡ max x y → max m z ≡ max x (max y z)
regrouped m x y z e = omega arith

pub returns : goal.returns
returns c =
    let b : ℕ = c.shared_front-2.result in
    let d : ℕ = c.shared_front-3.result in
    let e : ℕ = c.shared_front-4.result in
    let f : ℕ = c.shared_front-5.result in
    let g : ℕ = c.shared_front-6.result in
    let h : ℕ = c.shared_front-7.result in
    let i : ℕ = max c.shared_front-8.result 0 in
    let last : max c.max-6.result c.shared_front-8.result ≡ max c.max-6.result i = omega arith in
    rw (sym c.shared_front.ensures, sym c.shared_front-2.ensures, sym c.shared_front-3.ensures, sym c.shared_front-4.ensures, sym c.shared_front-5.ensures, sym c.shared_front-6.ensures, sym c.shared_front-7.ensures, sym c.shared_front-8.ensures)
    (c.max-7.ensures ∙ last ∙ regrouped c.max-6.result c.max-5.result h i c.max-6.ensures
    ∙ regrouped c.max-5.result c.max-4.result g (max h i) c.max-5.ensures
    ∙ regrouped c.max-4.result c.max-3.result f (max g (max h i)) c.max-4.ensures
    ∙ regrouped c.max-3.result c.max-2.result e (max f (max g (max h i))) c.max-3.ensures
    ∙ regrouped c.max-2.result c.max.result d (max e (max f (max g (max h i)))) c.max-2.ensures
    ∙ regrouped c.max.result c.shared_front.result b (max d (max e (max f (max g (max h i))))) c.max.ensures)
