use Rattle.std.proofs.Common.{◌≡◌, ℕ, ◌+◌, ◌*◌, ◌^◌, ◌<◌, ◌∙◌, List, ap, arith}
use Rattle.fixed_complex.specs.declared.Sample.{Sample}
use Rattle.fixed_complex.specs.Pairs.{rounded_pair}
use Rattle.fixed_complex.specs.PairLists.{by_256, entry}
use Rattle.fixed_complex.specs.Samples.{pair_at}
use Rattle.fixed_complex.proofs.PairLists.{is_by_place}
use Rattle.fixed_complex.proofs.PairSizes.{within-size}
use Rattle.butterfly64.specs.declared.rows.Row.{Row}
use Rattle.butterfly64.specs.Rows.{place_in}
use Rattle.butterfly64.specs.StagedSums.{down_at}
use Rattle.butterfly64.proofs.Halves.{down_at-local}
use Rattle.butterfly64.proofs.RowPlaces.{lane_is, lane_within, one_row_more}
use Rattle.carrier_equaliser.specs.Received.{received_at}
use Rattle.carrier_equaliser.proofs.carriers_of.Goals as goal

-- a staged sum of the samples times 256, rounded
carrier_is : (samples : List Sample) (rows sums : List Row) → ((n : ℕ) → n < 64 → place_in rows n ≡ by_256 (pair_at samples) n) → ((n : ℕ) → n < 64 → place_in sums n ≡ down_at 6 (place_in rows) n) → (bin : ℕ) → bin < 64 → rounded_pair 8 (place_in sums bin) ≡ received_at (pair_at samples) bin
carrier_is samples rows sums same summed bin lt =
    ap (rounded_pair 8) (summed bin lt ∙ down_at-local 6 (place_in rows) (by_256 (pair_at samples)) same bin)

pub put_carriers-requires-clause-words : goal.put_carriers-requires-clause-words
put_carriers-requires-clause-words c = λ l lt. lane_within c.down_rows.new.rows c.loop-r.r l c.down_rows.ensures.sizes c.loop-r-test.true lt

pub loop-r-preserved : goal.loop-r-preserved
loop-r-preserved c =
    let samples = c.args.body.now in
    let r = c.loop-r.r in
    let sums = c.down_rows.new.rows in
    record {
      long = c.put_carriers.array_long;
      done =
          one_row_more (received_at (pair_at samples)) (entry c.loop-r.carriers) (entry c.put_carriers.new.carriers) r c.loop-r.invariant.done c.put_carriers.ensures.before
          (λ l lt.
          c.put_carriers.ensures.put l lt
          ∙ ap (rounded_pair 8) (lane_is sums r l lt)
          ∙ carrier_is samples c.rows_by_256-sums.result sums c.rows_by_256-sums.ensures.pairs c.down_rows.ensures.sums (8 * r + l) (omega arith));
    }

pub returns-clause-carriers : goal.returns-clause-carriers
returns-clause-carriers c =
    is_by_place (received_at (pair_at c.args.body.now)) c.loop-r.carriers c.loop-r.invariant.long
    (λ n lt. c.loop-r.invariant.done n (omega arith))

pub returns-clause-near : goal.returns-clause-near
returns-clause-near c = record {
  long = c.loop-r.invariant.long;
  each = λ bin lt.
      let near = c.received_carriers.ensures.near (pair_at c.args.body.now) c.rows_by_256-sums.ensures.of_16_bits bin lt in
      rw (c.loop-r.invariant.done bin (omega arith)) (record { re = near.re; im = near.im });
}

pub returns-clause-sizes : goal.returns-clause-sizes
returns-clause-sizes c = record {
  each = λ bin lt.
      let below : bin < 64 = omega (arith, c.loop-r.invariant.long) in
      rw (c.loop-r.invariant.done bin (omega arith)) (c.received_carriers.ensures.size (pair_at c.args.body.now) c.rows_by_256-sums.ensures.of_16_bits bin below);
}

pub returns-clause-within : goal.returns-clause-within
returns-clause-within c = record { each = λ bin lt. within-size (2 ^ 22) _ ((returns-clause-sizes c).each bin lt) }
