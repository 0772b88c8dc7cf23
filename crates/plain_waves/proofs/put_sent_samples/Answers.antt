use Rattle.std.proofs.Common.{◌≡◌, ℕ, ◌+◌, ◌*◌, ◌∙◌, ◌<◌, List, ap, sym, subst, pos, arith}
use Rattle.std.proofs.lemmas.List.{ext_get_or}
use Rattle.std.proofs.lemmas.List.FromFn.{length-map-range_with_len, get_or-map-range_with_len}
use Rattle.fixed_complex.specs.declared.Cx.{Cx}
use Rattle.fixed_complex.specs.PairLists.{by_256, entry}
use Rattle.fixed_complex.specs.Samples.{IsSampleWithin, sample_at}
use Rattle.butterfly64.specs.declared.rows.Row.{Row}
use Rattle.butterfly64.specs.Rows.{place_in, row_in, row_lane}
use Rattle.butterfly64.specs.StagedSums.{up_at}
use Rattle.butterfly64.proofs.Halves.{up_at-local}
use Rattle.butterfly64.proofs.RowPlaces.{lane_is, lane_within, one_row_more}
use Rattle.plain_waves.specs.Bodies.{all_times, sent_body, sample_of}
use Rattle.plain_waves.proofs.Sent.{all_bounded, all_near, bounded}
use Rattle.plain_waves.proofs.put_sent_samples.Goals as goal

-- the sample of a staged sum of the carriers times 256, which stand in rows
sample_is : (xs : List Cx) (rows sums : List Row) → ((n : ℕ) → n < 64 → place_in rows n ≡ by_256 (entry xs) n) → ((n : ℕ) → n < 64 → place_in sums n ≡ up_at 6 (place_in rows) n) → (n : ℕ) → n < 64 → sample_of 9 (place_in sums n) ≡ sent_body (entry xs) n
sample_is xs rows sums in_rows summed n lt =
    ap (sample_of 9) (summed n lt ∙ up_at-local 6 (place_in rows) (by_256 (entry xs)) in_rows n)

lane_fits : (xs : List Cx) (sums : List Row) (r l : ℕ) → l < 8 → sample_of 9 (place_in sums (8 * r + l)) ≡ sent_body (entry xs) (8 * r + l) → IsSampleWithin 25057 (sent_body (entry xs) (8 * r + l)) → IsSampleWithin 25057 (sample_of 9 (row_lane (row_in sums r) l))
lane_fits xs sums r l lt is fits = subst (IsSampleWithin 25057) (sym (ap (sample_of 9) (lane_is sums r l lt) ∙ is)) fits

pub put_samples-requires-clause-words : goal.put_samples-requires-clause-words
put_samples-requires-clause-words c = λ l lt. lane_within c.up_rows.new.rows c.loop-r.r l c.up_rows.ensures.sizes c.loop-r-test.true lt

pub put_samples-requires-clause-fits : goal.put_samples-requires-clause-fits
put_samples-requires-clause-fits c = λ l lt.
    let xs = c.args.carriers.now in
    let r = c.loop-r.r in
    let below : 8 * r + l < 64 = omega arith in
    let sent = sample_is xs c.rows_by_256-sums.result c.up_rows.new.rows c.rows_by_256-sums.ensures.carriers c.up_rows.ensures.sums in
    lane_fits xs c.up_rows.new.rows r l lt (sent (8 * r + l) below) (bounded xs c.requires.within c.requires.fits (8 * r + l) below)

pub loop-r-preserved : goal.loop-r-preserved
loop-r-preserved c =
    let xs = c.args.carriers.now in
    let r = c.loop-r.r in
    let sums = c.up_rows.new.rows in
    let sent = sample_is xs c.rows_by_256-sums.result sums c.rows_by_256-sums.ensures.carriers c.up_rows.ensures.sums in
    record {
      long = c.put_samples.ensures.places;
      done =
          one_row_more (sent_body (entry xs)) (sample_at c.loop-r.samples) (sample_at c.put_samples.new.samples) r c.loop-r.invariant.done c.put_samples.ensures.before
          (λ l lt. c.put_samples.ensures.put l lt ∙ ap (sample_of 9) (lane_is sums r l lt) ∙ sent (8 * r + l) (omega arith));
    }

all : (c : goal.After-loop-r) → c.loop-r.samples ≡ all_times (sent_body (entry c.args.carriers.now))
all c =
    let f = sent_body (entry c.args.carriers.now) in
    ext_get_or (record { i = pos 0; q = pos 0 }) c.loop-r.samples (all_times f) (c.loop-r.invariant.long ∙ sym (length-map-range_with_len f 0 64))
    (λ n lt.
    let below : n < 64 = omega (arith, c.loop-r.invariant.long) in
    c.loop-r.invariant.done n (omega arith) ∙ sym (get_or-map-range_with_len f 0 64 n n (record { i = pos 0; q = pos 0 }) below (omega arith)))

pub returns-clause-samples : goal.returns-clause-samples
returns-clause-samples c = all c

pub returns-clause-near : goal.returns-clause-near
returns-clause-near c = rw (all c) (all_near c.args.carriers.now c.requires.within)

pub returns-clause-within : goal.returns-clause-within
returns-clause-within c = rw (all c) (all_bounded c.args.carriers.now c.requires.within c.requires.fits)
