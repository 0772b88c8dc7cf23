-- Scripts: series of items with a semicolon and a space between two.
use Rattle.std.proofs.Common.{ℕ, ◌+◌, ◌-◌, ◌<◌, ◌≤◌, ◌≡◌, ◌⊎◌, List, [], ◌∷◌, ◌++◌, length, take, drop, inl, inr, refl, sym, ap, ◌∙◌, subst, arith}
use Rattle.std.proofs.lemmas.List.Elements.{All-cons, All-head, All-nil, All-tail}
use Rattle.noise_script.specs.Items.{IsInRange, IsItem, SaysItem, item_text}
use Rattle.noise_script.specs.Scripts.{IsScript, SaysScript, script_text}
use Rattle.noise_script.specs.declared.Item.{Item}
use Rattle.noise_script.specs.declared.Item.TheVariants.{Lead}
use Rattle.noise_script.proofs.Items.{item_bare}
use Rattle.word_grammar.specs.Marks.{IsWordEnd}
use Rattle.word_grammar.specs.Pairs.{SaysSome}
use Rattle.word_grammar.specs.Places.{IsBadAt}
use Rattle.word_grammar.proofs.Marks.{whole_at}
use Rattle.word_grammar.proofs.Series.{IsSeries, SaysMore}
use Rattle.word_grammar.proofs.Places.{bad_same}

-- an item of a script of at most so many
pub record IsCounted (most : ℕ) (item : Item) (text : List ℕ) : Type 0 where
  pub some : 1 ≤ most
  pub says : SaysItem item text

-- another may stand behind an item
abbrev pub MayGoOn : ℕ → Item → Type 0
MayGoOn most item = 2 ≤ most

abbrev pub one_less : ℕ → Item → ℕ
one_less most item = most - 1

-- an item alone is a script, and so is one in front of a script
pub one_says : (most : ℕ) (item : Item) (text : List ℕ) → 1 ≤ most → SaysItem item text → SaysScript most (item ∷ []) text
one_says most item text m says = record {
  some = omega arith;
  few = omega arith;
  in_range = All-cons IsInRange item [] says.in_range (All-nil IsInRange);
  is = says.is;
}

text_more : (item : Item) (items : List Item) → 1 ≤ length items → script_text (item ∷ items) ≡ item_text item ++ 59 ∷ 32 ∷ script_text items
text_more item [] l = absurd (omega arith)
text_more item (next ∷ items) l = refl

pub more_says : (most : ℕ) (item : Item) (items : List Item) (word rest : List ℕ) → SaysItem item word → SaysScript (most - 1) items rest → 2 ≤ most → SaysScript most (item ∷ items) (word ++ 59 ∷ 32 ∷ rest)
more_says most item items word rest says h m = record {
  some = omega arith;
  few = omega (arith, h.few);
  in_range = All-cons IsInRange item items says.in_range h.in_range;
  is = ap (λ x. x ++ 59 ∷ 32 ∷ rest) says.is ∙ ap (λ x. item_text item ++ 59 ∷ 32 ∷ x) h.is ∙ sym (text_more item items h.some);
}

parts : (most : ℕ) (items : List Item) (text : List ℕ) → SaysScript most items text → SaysSome (IsCounted most) text ⊎ SaysMore 59 32 IsCounted MayGoOn one_less IsScript most text
parts most [] text h = absurd (omega (arith, h.some))
parts most (item ∷ []) text h = inl (item, record { some = omega (arith, h.few); says = record { in_range = All-head IsInRange item [] h.in_range; is = h.is } })
parts most (item ∷ next ∷ items) text h = inr (record {
  value = item;
  word = item_text item;
  rest = script_text (next ∷ items);
  whole = h.is;
  says = record { some = omega (arith, h.few); says = record { in_range = All-head IsInRange item (next ∷ items) h.in_range; is = refl } };
  may = omega (arith, h.few);
  behind = (next ∷ items, record { some = omega arith; few = omega (arith, h.few); in_range = All-tail IsInRange item (next ∷ items) h.in_range; is = refl });
})

a_script : (most : ℕ) → 1 ≤ most → IsScript most (item_text (Lead 0))
a_script most m = (Lead 0 ∷ [], one_says most (Lead 0) (item_text (Lead 0)) m (record { in_range = omega arith; is = refl }))

pub scripts : IsSeries 59 32 IsCounted MayGoOn one_less IsScript
scripts = record {
  bare = λ most item word h. item_bare item word h.says;
  same = λ most u v word p q m. (m, λ rest h. h);
  some = λ most item word h m. (item_text (Lead 0), a_script (most - 1) (omega arith));
  one = λ most item word h. (item ∷ [], one_says most item word h.some h.says);
  more = λ most item word rest h m behind. (item ∷ behind.0, more_says most item behind.0 word rest h.says behind.1 m);
  parts = λ most text h. parts most h.0 text h.1;
}

-- a bad item is one of a script
pub bad_counted : (most : ℕ) (text : List ℕ) (at : ℕ) → 1 ≤ most → IsBadAt IsItem text at → IsBadAt (SaysSome (IsCounted most)) text at
bad_counted most text at m bad =
    bad_same IsItem (SaysSome (IsCounted most)) text at (λ s h. (h.0, record { some = m; says = h.1 })) (λ s h. (h.0, h.1.says)) bad

-- a text whose first item and what stands behind it are read
pub goes_on : (most : ℕ) (item : Item) (items : List Item) (text : List ℕ) (end : ℕ) → IsWordEnd 59 text end → end < length text → SaysItem item (take end text) → drop (end + 1) text ≡ 32 ∷ drop (end + 2) text → 2 ≤ most → SaysScript (most - 1) items (drop (end + 2) text) → SaysScript most (item ∷ items) text
goes_on most item items text end w l says e m h =
    subst (SaysScript most (item ∷ items)) (sym (whole_at 59 text end w l ∙ ap (λ x. take end text ++ 59 ∷ x) e))
    (more_says most item items (take end text) (drop (end + 2) text) says h m)
