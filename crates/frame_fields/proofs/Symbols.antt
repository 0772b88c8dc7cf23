-- Bits that are cut into symbols, one after another.
use Rattle.std.proofs.Common.{◌≡◌, ◌<◌, ◌≤◌, inl, inr, ℕ, suc, ◌+◌, ◌-◌, ◌*◌, ◌++◌, [], List, length, take, drop, min, ap, sym, ◌∙◌, lit<, arith}
use Rattle.std.proofs.Math.Nat.{le_of_mul-le-mul_right, mul-le-mul_right, suc-mul}
use Rattle.std.proofs.Math.Seq.{drop-append_seam, take-append_seam}
use Rattle.std.proofs.lemmas.Bool.{cases_lt}
use Rattle.std.proofs.lemmas.List.{drop-drop, flat_map_more, length-drop}
use Rattle.std.specs.List.{flat_map, range_with_len}
use Rattle.interleave_two.specs.Place.{symbol_bits}
use Rattle.bit_lists.proofs.ByPlace.{one_place_more}
use Rattle.rate_table.proofs.ByRate.{by_rate}
use Rattle.rate_table.specs.declared.Rate.{Rate}
use Rattle.rate_table.specs.Table.{row_of}
use Rattle.rate_table.specs.Symbols.{symbol_count}
use Rattle.rate_table.proofs.SymbolCounts.{few_symbols}

-- a chunk of the bits of symbols, which comes off once m symbols came off, is symbol m
pub record NextSymbol (coded : ℕ) (kept : List ℕ) (m : ℕ) (symbol rest : List ℕ) : Type 0 where
  pub is : symbol ≡ take coded (drop (m * coded) kept)
  pub long : length symbol ≡ coded
  pub rest_is : rest ≡ drop ((m + 1) * coded) kept
  pub within : (m + 1) * coded ≤ length kept

one_symbol : (m coded : ℕ) → (m + 1) * coded ≡ m * coded + coded
one_symbol m coded = let next : m + 1 ≡ suc m = omega arith in ap (λ n. n * coded) next ∙ suc-mul m coded

-- as long as some of them are left, a whole symbol is
whole_left : (coded symbols m total : ℕ) → total ≡ symbols * coded → 0 < total - m * coded → (m + 1) * coded ≤ total
whole_left coded symbols m total whole some =
    elim (cases_lt m symbols) [
      | inl below ↦ let most = mul-le-mul_right {m = m + 1} {n = symbols} coded (omega arith) in omega (arith, most, whole)
      | inr past ↦ let least = mul-le-mul_right {m = symbols} {n = m} coded (omega arith) in absurd (omega (arith, least, whole))
    ]

pub next_symbol : (coded symbols m : ℕ) (kept before symbol after : List ℕ) → length kept ≡ symbols * coded → before ≡ drop (m * coded) kept
    → before ≡ symbol ++ after → length symbol ≡ min coded (length before) → 0 < length before → NextSymbol coded kept m symbol after
next_symbol coded symbols m kept before symbol after whole is parts short some =
    let total : length before ≡ length kept - m * coded = ap length is ∙ length-drop (m * coded) kept in
    let within = whole_left coded symbols m (length kept) whole (omega (arith, total)) in
    let long : length symbol ≡ coded = omega (arith, total, within, one_symbol m coded) in
    let both : symbol ++ after ≡ drop (m * coded) kept = sym parts ∙ is in
    record {
      is = sym (take-append_seam symbol after) ∙ ap (λ n. take n (symbol ++ after)) long ∙ ap (take coded) both;
      long = long;
      rest_is = sym (drop-append_seam symbol after) ∙ ap (λ n. drop n (symbol ++ after)) long ∙ ap (drop coded) both ∙ drop-drop coded (m * coded) kept
          ∙ ap (λ n. drop n kept) (sym (one_symbol m coded));
      within = within;
    }

-- and where none are left, all symbols came off
pub no_symbol : (coded symbols m : ℕ) (kept before : List ℕ) → 0 < coded → length kept ≡ symbols * coded → before ≡ drop (m * coded) kept
    → m * coded ≤ length kept → length before ≡ 0 → m ≡ symbols
no_symbol coded symbols m kept before some whole is within none =
    let total : length before ≡ length kept - m * coded = ap length is ∙ length-drop (m * coded) kept in
    let least = le_of_mul-le-mul_right {m = symbols} {n = m} {k = coded} (omega (arith, total, whole)) some in
    let most = le_of_mul-le-mul_right {m = m} {n = symbols} {k = coded} (omega (arith, whole)) some in
    omega (arith, least, most)

-- after what is made of symbol m was appended, it is made of one symbol more
pub symbol_appended : {A : Type 0} (of_symbol : List ℕ → List A) (rate : Rate) (kept symbol : List ℕ) (before after : List A) (m : ℕ)
    → before ≡ flat_map (λ m. of_symbol (symbol_bits rate kept m)) (range_with_len 0 m) → symbol ≡ symbol_bits rate kept m → after ≡ before ++ of_symbol symbol
    → after ≡ flat_map (λ m. of_symbol (symbol_bits rate kept m)) (range_with_len 0 (m + 1))
symbol_appended {A} of_symbol rate kept symbol before after m so_far is appended =
    let at : ℕ → List A = λ m. of_symbol (symbol_bits rate kept m) in
    appended ∙ ap (λ front. front ++ of_symbol symbol) so_far ∙ ap (λ one. flat_map at (range_with_len 0 m) ++ of_symbol one) is
    ∙ flat_map_more at [] (range_with_len 0 m) m ∙ sym (ap (flat_map at) (one_place_more 0 m m (omega arith)))

-- a symbol has coded bits
pub some_coded : (rate : Rate) → 0 < (row_of rate).coded_bits
some_coded rate = by_rate (λ r. 0 < (row_of r).coded_bits) (lit< tt) (lit< tt) (lit< tt) (lit< tt) (lit< tt) (lit< tt) (lit< tt) (lit< tt) rate

-- one symbol more is within those of a frame
pub count_within : (rate : Rate) (octets n : ℕ) (kept : List ℕ) → octets ≤ 4095 → length kept ≡ symbol_count (row_of rate).field_bits octets * (row_of rate).coded_bits
    → (n + 1) * (row_of rate).coded_bits ≤ length kept → n + 1 ≤ 1366
count_within rate octets n kept short whole within =
    let most = le_of_mul-le-mul_right {m = n + 1} {n = symbol_count (row_of rate).field_bits octets} {k = (row_of rate).coded_bits} (omega (arith, within, whole)) (some_coded rate) in
    omega (arith, most, few_symbols rate octets short)

-- so once all symbols came off, it is made of all
pub all_appended : {A : Type 0} (of_symbol : List ℕ → List A) (rate : Rate) (kept bits : List ℕ) (made : List A) (m symbols : ℕ)
    → made ≡ flat_map (λ m. of_symbol (symbol_bits rate kept m)) (range_with_len 0 m) → kept ≡ bits → m ≡ symbols
    → made ≡ flat_map (λ m. of_symbol (symbol_bits rate bits m)) (range_with_len 0 symbols)
all_appended of_symbol rate kept bits made m symbols so_far same all =
    so_far ∙ ap (λ list. flat_map (λ m. of_symbol (symbol_bits rate list m)) (range_with_len 0 m)) same
    ∙ ap (λ n. flat_map (λ m. of_symbol (symbol_bits rate bits m)) (range_with_len 0 n)) all
