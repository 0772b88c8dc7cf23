-- A frame that was begun, and one symbol more.
use Rattle.std.proofs.Common.{◌≡◌, ℕ, suc, ◌+◌, ◌++◌, List, length, ap, sym, ◌∙◌, arith}
use Rattle.std.proofs.lemmas.List.{append-nil, flat_map_more}
use Rattle.std.specs.List.{flat_map, range_with_len}
use Rattle.bit_lists.proofs.ByPlace.{one_place_more}
use Rattle.fixed_complex.specs.declared.Cx.{Cx}
use Rattle.fixed_complex.specs.declared.Sample.{Sample}
use Rattle.data_field.specs.Stages.{kept_at}
use Rattle.interleave_two.specs.Place.{symbol_bits}
use Rattle.rate_table.specs.declared.Rate.{Rate}
use Rattle.rate_table.specs.declared.Rate.TheVariants.{R6}
use Rattle.rate_table.specs.Symbols.{symbol_count}
use Rattle.rate_table.specs.Table.{row_of}
use Rattle.symbol_builder.specs.Carriers.{sent_symbol, symbol_bin, symbol_times}
use Rattle.symbol_builder.specs.Points.{points_of_code}
use Rattle.plain_waves.specs.Bodies.{sent_body}
use Rattle.training_fields.specs.Training.{preamble_of}
use Rattle.frame_fields.specs.Frames.{frame_of, frame_points, frame_symbol, signal_code}

-- the preamble, and the symbols below n behind it
unfoldable pub begun_frame : {A : Type 0} → ((ℕ → Cx) → ℕ → A) → Rate → ℕ → List ℕ → ℕ → List A
begun_frame body rate seed psdu n = preamble_of body ++ flat_map (frame_symbol body rate seed psdu) (range_with_len 0 n)

-- with no symbol it is the preamble
pub no_symbols : {A : Type 0} (body : (ℕ → Cx) → ℕ → A) (rate : Rate) (seed : ℕ) (psdu : List ℕ) → begun_frame body rate seed psdu 0 ≡ preamble_of body
unfolding begun_frame
no_symbols body rate seed psdu = append-nil _

-- the preamble and SIGNAL
pub head_is : {A : Type 0} (body : (ℕ → Cx) → ℕ → A) (rate : Rate) (seed : ℕ) (psdu : List ℕ)
    → preamble_of body ++ symbol_times (body (symbol_bin (points_of_code R6 (signal_code rate (length psdu))) 0)) ≡ begun_frame body rate seed psdu 1
unfolding begun_frame
head_is body rate seed psdu = ap (λ symbols. preamble_of body ++ symbols) (sym (append-nil _))

-- one symbol more
pub one_symbol_more : {A : Type 0} (body : (ℕ → Cx) → ℕ → A) (rate : Rate) (seed : ℕ) (psdu : List ℕ) (n : ℕ)
    → begun_frame body rate seed psdu n ++ frame_symbol body rate seed psdu n ≡ begun_frame body rate seed psdu (n + 1)
unfolding begun_frame
one_symbol_more body rate seed psdu n =
    flat_map_more (frame_symbol body rate seed psdu) (preamble_of body) (range_with_len 0 n) n
    ∙ sym (ap (λ places. preamble_of body ++ flat_map (frame_symbol body rate seed psdu) places) (one_place_more 0 n n (omega arith)))

-- with all symbols it is the frame
pub all_symbols : {A : Type 0} (body : (ℕ → Cx) → ℕ → A) (rate : Rate) (seed : ℕ) (psdu : List ℕ) (n : ℕ) → n ≡ symbol_count (row_of rate).field_bits (length psdu)
    → begun_frame body rate seed psdu (n + 1) ≡ frame_of body rate seed psdu
unfolding begun_frame frame_of
all_symbols body rate seed psdu n whole =
    ap (λ count. preamble_of body ++ flat_map (frame_symbol body rate seed psdu) (range_with_len 0 (count + 1))) whole

-- the points of DATA symbol m, from its coded bits
pub points_are : (rate : Rate) (seed : ℕ) (psdu kept symbol : List ℕ) (points : List Cx) (m : ℕ) → kept ≡ kept_at rate seed psdu
    → symbol ≡ symbol_bits rate kept m → points ≡ points_of_code rate symbol → points ≡ frame_points rate seed psdu (m + 1)
points_are rate seed psdu kept symbol points m same is made =
    let next : suc m ≡ m + 1 = omega arith in
    made ∙ ap (points_of_code rate) (is ∙ ap (λ bits. symbol_bits rate bits m) same) ∙ ap (frame_points rate seed psdu) next

-- after its samples were appended, the frame has one symbol more
pub samples_are : (rate : Rate) (seed : ℕ) (psdu : List ℕ) (before after : List Sample) (points : List Cx) (n : ℕ)
    → before ≡ begun_frame sent_body rate seed psdu n → points ≡ frame_points rate seed psdu n → after ≡ before ++ sent_symbol points n
    → after ≡ begun_frame sent_body rate seed psdu (n + 1)
samples_are rate seed psdu before after points n so_far is appended =
    appended ∙ ap (λ front. front ++ sent_symbol points n) so_far ∙ ap (λ ps. begun_frame sent_body rate seed psdu n ++ sent_symbol ps n) is
    ∙ one_symbol_more sent_body rate seed psdu n
