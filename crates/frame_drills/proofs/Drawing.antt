-- Frames that are drawn, word by word.
use Rattle.std.proofs.Common.{◌≡◌, ℕ, zero, suc, ◌+◌, ◌%◌, ◌<◌, ◌≤◌, List, ◌∷◌, ◌++◌, [], length, refl, sym, ap, ◌∙◌, subst, arith}
use Rattle.std.proofs.lemmas.List.FromFn.{get_or-map-range_with_len, length-map-range_with_len, map-range_with_len_more}
use Rattle.bit_lists.specs.Bits.{AreOctets}
use Rattle.frame_lists.specs.Near.{SentFrame, samples_of}
use Rattle.frames_in_noise.specs.Laws.{IsFrame}
use Rattle.rand_pcg.specs.Lcg.{Lcg, advance, increment_of, next, next_state, started, state_after}
use Rattle.rand_pcg.specs.Pcg.{multiplier_64, pcg32}
use Rattle.rand_pcg.proofs.LcgLemmas.{advance_zero}
use Rattle.rate_table.proofs.SymbolCounts.{few_symbols}
use Rattle.rate_table.specs.declared.Rate.{Rate}
use Rattle.rate_table.specs.Symbols.{IsLength}
use Rattle.rate_table.specs.Table.{rate_at}
use Rattle.frame_drills.specs.Draws.{drawn, drawn_octets, generator_behind, word_of}

-- ---- words
-- one step more
state_more : (w m p n s : ℕ) → next_state w m p (state_after w m p n s) ≡ state_after w m p (n + 1) s
unfolding state_after
state_more w m p zero s = refl
state_more w m p (suc n) s =
    let more : suc (n + 1) ≡ suc n + 1 = omega arith in
    state_more w m p n (next_state w m p s) ∙ ap (λ k. state_after w m p k s) more

advance_more : (w m n : ℕ) (g : Lcg) → next w m (advance w m n g) ≡ advance w m (n + 1) g
advance_more w m n g = ap (λ s. record g { state = s }) (state_more w m g.increment n g.state)

-- before the first word
pub behind_none : (number : ℕ) → started 64 multiplier_64 number (increment_of 64 11) ≡ generator_behind number 0
unfolding generator_behind
behind_none number = sym (advance_zero 64 multiplier_64 (started 64 multiplier_64 number (increment_of 64 11)))

-- the word that is drawn, and the generator behind it
pub word_drawn : (number n word : ℕ) (old new : Lcg) → (word, new) ≡ pcg32 old → old ≡ generator_behind number n → word ≡ word_of number n
unfolding word_of
word_drawn number n word old new drawn there = ap (λ (p : ℕ × Lcg). p.0) drawn ∙ ap (λ g. (pcg32 g).0) there

pub behind_drawn : (number n word : ℕ) (old new : Lcg) → (word, new) ≡ pcg32 old → old ≡ generator_behind number n → new ≡ generator_behind number (n + 1)
unfolding generator_behind
behind_drawn number n word old new drawn there =
    ap (λ (p : ℕ × Lcg). p.1) drawn ∙ ap (λ g. (pcg32 g).1) there
    ∙ advance_more 64 multiplier_64 n (started 64 multiplier_64 number (increment_of 64 11))

-- one octet more
pub octet_drawn : (number count word : ℕ) (octets more : List ℕ) → octets ≡ drawn_octets number count → word ≡ word_of number (4 + count) → more ≡ octets ++ (word % 256) ∷ []
    → more ≡ drawn_octets number (count + 1)
octet_drawn number count word octets more before drawn pushed =
    pushed ∙ ap (λ list. list ++ (word % 256) ∷ []) before ∙ ap (λ w. drawn_octets number count ++ (w % 256) ∷ []) drawn
    ∙ sym (map-range_with_len_more (λ n. word_of number n % 256) 4 count (4 + count) refl)

-- ---- frames
pub drawn_parts : (number lead seed : ℕ) (rate : Rate) (psdu : List ℕ) → lead ≡ word_of number 3 % 2048 → rate ≡ rate_at (word_of number 0 % 8) → seed ≡ 1 + word_of number 2 % 127
    → psdu ≡ drawn_octets number (1 + word_of number 1 % 4095) → ◌≡◌ {A = SentFrame} (record { start = lead; rate = rate; seed = seed; psdu = psdu }) (drawn number)
unfolding drawn
drawn_parts number lead seed rate psdu lead_is rate_is seed_is psdu_is =
    let first : ℕ → SentFrame = λ n. record { start = n; rate = rate; seed = seed; psdu = psdu } in
    let second : Rate → SentFrame = λ r. record { start = word_of number 3 % 2048; rate = r; seed = seed; psdu = psdu } in
    let third : ℕ → SentFrame = λ n. record { start = word_of number 3 % 2048; rate = rate_at (word_of number 0 % 8); seed = n; psdu = psdu } in
    let fourth : List ℕ → SentFrame = λ octets. record { start = word_of number 3 % 2048; rate = rate_at (word_of number 0 % 8); seed = 1 + word_of number 2 % 127; psdu = octets } in
    ap first lead_is ∙ ap second rate_is ∙ ap third seed_is ∙ ap fourth psdu_is

pub lead_most : (number : ℕ) → (drawn number).start ≤ 2047
unfolding drawn
lead_most number = omega arith

length-drawn : (number count : ℕ) → length (drawn_octets number count) ≡ count
length-drawn number count = length-map-range_with_len (λ n. word_of number n % 256) 4 count

octets_are : (number count : ℕ) → AreOctets (drawn_octets number count)
octets_are number count = λ k d below.
    let size = length-drawn number count in
    let is = get_or-map-range_with_len (λ n. word_of number n % 256) 4 count k (4 + k) d (omega arith) refl in
    subst (λ octet. octet < 256) (sym is) (omega arith)

pub drawn_is_frame : (number : ℕ) → IsFrame (drawn number)
unfolding drawn
drawn_is_frame number = record {
  seed = (omega arith, omega arith);
  long = let size = length-drawn number (1 + word_of number 1 % 4095) in (omega arith, omega arith);
  octets = octets_are number (1 + word_of number 1 % 4095);
}

-- ---- what rates bound
pub samples_most : (frame : SentFrame) → IsLength (length frame.psdu) → samples_of frame ≤ 109680
samples_most frame long = let symbols = few_symbols frame.rate (length frame.psdu) long.1 in omega arith
