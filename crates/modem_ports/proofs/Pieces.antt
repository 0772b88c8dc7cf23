-- Pieces that a port gave or took one after another.
use Rattle.std.proofs.Common.{◌≡◌, ℕ, ◌+◌, ◌-◌, ◌≤◌, List, ◌++◌, length, take, drop, Option, Some, None, arith, length-append, append_assoc, sym, ◌∙◌, ap}
use Rattle.std.proofs.Math.Seq.{take-add}
use Rattle.std.proofs.lemmas.Grind.{common_steps}
use Rattle.std.proofs.lemmas.List.{take_at, take-append-drop}
use Rattle.modem_ports.specs.Told.{Gives, GivesAtMost, GivesExactly, Takes}

-- a piece and then another are one piece that a source gave
pub Gives-append : (a b c : Option (List ℕ)) (p q : List ℕ) → Gives a p b → Gives b q c → Gives a (p ++ q) c
Gives-append (Some a) (Some b) (Some c) p q g h = g ∙ ap (λ x. p ++ x) h ∙ sym (append_assoc p q c)
Gives-append None None None p q g h = tt
Gives-append (Some a) (Some b) None p q g h = absurd h
Gives-append (Some a) None c p q g h = absurd g
Gives-append None (Some b) c p q g h = absurd g
Gives-append None None (Some c) p q g h = absurd h

-- a piece and then at most n bytes are at most m bytes
pub GivesAtMost-append : (a b c : Option (List ℕ)) (p : List ℕ) (n m : ℕ) → Gives a p b → GivesAtMost n b c → length p + n ≤ m → GivesAtMost m a c
GivesAtMost-append a b c p n m g h k =
    (p ++ h.0, omega (arith, length-append p h.0, h.1), Gives-append a b c p h.0 g h.2)

-- a piece and then just n bytes are just m bytes
pub GivesExactly-append : (a b c : Option (List ℕ)) (p : List ℕ) (n m : ℕ) → Gives a p b → GivesExactly n b c → length p + n ≡ m → GivesExactly m a c
GivesExactly-append a b c p n m g h k =
    (p ++ h.0, omega (arith, length-append p h.0, h.1), Gives-append a b c p h.0 g h.2)

-- a piece and then another are one piece that a sink took
pub Takes-append : (a b c : Option (List ℕ)) (p q : List ℕ) → Takes a p b → Takes b q c → Takes a (p ++ q) c
Takes-append (Some a) (Some b) (Some c) p q g h = h ∙ ap (λ x. x ++ q) g ∙ append_assoc a p q
Takes-append None None None p q g h = tt
Takes-append (Some a) (Some b) None p q g h = absurd h
Takes-append (Some a) None c p q g h = absurd g
Takes-append None (Some b) c p q g h = absurd g
Takes-append None None (Some c) p q g h = absurd h

-- the front of a list and then n bytes of the slice behind it are a longer front
pub Takes-more : (a b c : Option (List ℕ)) (xs : List ℕ) (at n : ℕ) → at + n ≤ length xs → Takes a (take at xs) b → Takes b (take n (take (length xs - at) (drop at xs))) c → Takes a (take (at + n) xs) c
Takes-more a b c xs at n h t u =
    let e : take (at + n) xs ≡ take at xs ++ take n (take (length xs - at) (drop at xs)) =
    grind (arith, common_steps, take-add at n xs) in
    rw e (Takes-append a b c _ _ t u)

-- the front of a rest that was copied into a buffer, and what is behind it, are the rest
pub front-copied : (xs left piece behind : List ℕ) (at n m : ℕ) → drop at xs ≡ left → piece ≡ take n (take m (drop at xs)) → length piece ≡ n → left ≡ take n (piece ++ behind) ++ drop (at + n) xs
front-copied xs left piece behind at n m l e h =
    let same : piece ≡ take n (drop at xs) = grind (arith, common_steps) in
    let front : take n (piece ++ behind) ≡ piece = take_at piece behind n h in
    let rest : drop (at + n) xs ≡ drop n (drop at xs) = grind (arith, common_steps) in
    sym l ∙ rw (front, same, rest) (sym (take-append-drop n (drop at xs)))
