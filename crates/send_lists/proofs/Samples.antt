-- The samples of lists.
use Rattle.std.proofs.Common.{ℕ, ◌+◌, ◌*◌, ◌<◌, ◌≤◌, ◌≡◌, List, [], ◌∷◌, ◌++◌, All, length, drop, map, get_or, pos, refl, sym, ap, ◌∙◌, arith, append_assoc, append-nil, length-append}
use Rattle.std.proofs.lemmas.List.{drop_more, length-map, length-replicate, map-append}
use Rattle.std.proofs.lemmas.List.Elements.{All-map, All-weaker, All-drop}
use Rattle.fixed_complex.specs.declared.Sample.{Sample}
use Rattle.frame_fields.specs.Frames.{sent_frame}
use Rattle.frame_fields.proofs.FramePlaces.{length-frame}
use Rattle.frame_lists.specs.Items.{Item, samples_of_items, silence}
use Rattle.frame_lists.specs.Laws.{SentListIsNear}
use Rattle.list_texts.specs.Lists.{IsInRange}
use Rattle.list_texts.specs.declared.Entry.{Entry}
use Rattle.plain_waves.specs.Bodies.{sent_body}
use Rattle.rate_table.specs.Symbols.{symbol_count}
use Rattle.rate_table.specs.Table.{row_of}
use Rattle.send_lists.specs.Laws.{SentListsAreNear}
use Rattle.send_lists.specs.Sent.{item_of, samples_of_list}

-- those of two lists, one behind the other
append_items : (xs ys : List Item) → samples_of_items (xs ++ ys) ≡ samples_of_items xs ++ samples_of_items ys
unfolding samples_of_items
append_items [] ys = refl
append_items (x ∷ xs) ys =
    let front : List Sample = silence x.gap ++ sent_frame x.rate x.seed x.psdu in
    ap (λ s. front ++ s) (append_items xs ys) ∙ sym (append_assoc front (samples_of_items xs) (samples_of_items ys))

pub append_lists : (a b : List Entry) → samples_of_list (a ++ b) ≡ samples_of_list a ++ samples_of_list b
append_lists a b = ap samples_of_items (map-append item_of a b) ∙ append_items (map item_of a) (map item_of b)

pub count_more : (entries : List Entry) (entry : Entry) → length (samples_of_list (entries ++ entry ∷ [])) ≡ length (samples_of_list entries) + length (samples_of_list (entry ∷ []))
count_more entries entry =
    ap length (append_lists entries (entry ∷ [])) ∙ length-append (samples_of_list entries) (samples_of_list (entry ∷ []))

-- those of one entry
pub one_entry : (entry : Entry) → samples_of_list (entry ∷ []) ≡ silence entry.gap ++ sent_frame entry.rate entry.seed entry.psdu
unfolding samples_of_items
one_entry entry = append-nil (silence entry.gap ++ sent_frame entry.rate entry.seed entry.psdu)

pub count_one : (entry : Entry) → length (samples_of_list (entry ∷ [])) ≡ entry.gap + (400 + 80 * symbol_count (row_of entry.rate).field_bits (length entry.psdu))
count_one entry =
    let silent : Sample = record { i = pos 0; q = pos 0 } in
    let frame : List Sample = sent_frame entry.rate entry.seed entry.psdu in
    omega (
      arith,
      ap length (one_entry entry),
      length-append (silence entry.gap) frame,
      length-replicate {A = Sample} entry.gap silent,
      length-frame sent_body entry.rate entry.seed entry.psdu,
    )

pub no_samples : samples_of_list [] ≡ []
unfolding samples_of_items
no_samples = refl

-- the samples from an entry on
pub rest_samples : (entries : List Entry) (k : ℕ) (d : Entry) → k < length entries → samples_of_list (drop k entries) ≡ samples_of_list (get_or entries k d ∷ []) ++ samples_of_list (drop (k + 1) entries)
rest_samples entries k d l = ap samples_of_list (drop_more entries k d l) ∙ append_lists (get_or entries k d ∷ []) (drop (k + 1) entries)

-- the gaps of a list are at least 16
pub wide_gaps : (entries : List Entry) → All IsInRange entries → All (λ (item : Item). 16 ≤ item.gap) (drop 1 (map item_of entries))
wide_gaps entries h =
    let gaps : All (λ (entry : Entry). 16 ≤ entry.gap) entries = All-weaker IsInRange (λ (entry : Entry). 16 ≤ entry.gap) (λ entry r. r.least_gap) entries h in
    All-drop (λ (item : Item). 16 ≤ item.gap) 1 (map item_of entries) (All-map (λ (item : Item). 16 ≤ item.gap) item_of entries gaps)

-- a list is near its frames
pub sent_lists_near : SentListIsNear → SentListsAreNear
sent_lists_near near entries h = near (map item_of entries) (omega (arith, length-map entries item_of, h.some)) (wide_gaps entries h.in_range)
