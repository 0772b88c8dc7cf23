use Rattle.std.proofs.Common.{◌≡◌, ℕ, ◌+◌, ◌<◌, List, length, set, ap, sym, ◌∙◌, arith, inl, inr, get_or-set_same, get_or-set_other, length-set}
use Rattle.std.proofs.lemmas.Bool.{cases_eq}
use Rattle.std.proofs.lemmas.List.FromFn.{length-map-range_with_len}
use Rattle.fixed_complex.specs.declared.Cx.{Cx}
use Rattle.fixed_complex.specs.Pairs.{zero_pair}
use Rattle.fixed_complex.specs.PairLists.{entry}
use Rattle.fixed_complex.proofs.PairLists.{is_by_place, entry-map}
use Rattle.carrier_bins.specs.Carriers.{bin_of, data_carrier_of}
use Rattle.carrier_bins.specs.Bins.{by_bin}
use Rattle.symbol_builder.specs.Carriers.{pilot_at, symbol_bin}
use Rattle.symbol_builder.proofs.Bins.{all_placed, none_placed, one_placed, others_stay, placed}
use Rattle.symbol_builder.proofs.SymbolSizes.{symbol_within}
use Rattle.symbol_builder.proofs.samples.put_carriers.Goals as goal

pub loop-k-init : goal.loop-k-init
loop-k-init c = record {
  long = ap length c.put_pilots.ensures ∙ length-map-range_with_len (by_bin (pilot_at c.args.n)) 0 64;
  each = λ bin lt.
      ap (λ xs. entry xs bin) c.put_pilots.ensures ∙ entry-map (by_bin (pilot_at c.args.n)) 64 bin lt ∙ sym (none_placed c.args.points.now c.args.n bin);
}

-- one more point placed
one_more : (xs points : List Cx) (n k b : ℕ) → length xs ≡ 64 → ((bin : ℕ) → bin < 64 → entry xs bin ≡ placed points n k bin) → k < 48 → b < 64 → b ≡ bin_of (data_carrier_of k) → (bin : ℕ) → bin < 64 → entry (set xs b (entry points k)) bin ≡ placed points n (k + 1) bin
one_more xs points n k b long so_far small b_lt e bin lt =
    elim (cases_eq bin b) [
      | inl here ↦
          let inside : b < length xs = omega (arith, long) in
          rw here (get_or-set_same xs b (entry points k) zero_pair inside ∙ one_placed points n k small ∙ ap (placed points n (k + 1)) (sym e))
      | inr there ↦
          get_or-set_other xs b bin (entry points k) zero_pair there ∙ so_far bin lt ∙ others_stay points n k bin lt small (λ same. there (same ∙ sym e))
    ]

pub loop-k-preserved : goal.loop-k-preserved
loop-k-preserved c =
    let k = c.loop-k.k in
    let b = c.data_bin.result in
    record {
      long = length-set c.loop-k.carriers b _ ∙ c.loop-k.invariant.long;
      each = one_more c.loop-k.carriers c.args.points.now c.args.n k b c.loop-k.invariant.long c.loop-k.invariant.each c.loop-k-test.true c.data_bin.ensures.within c.data_bin.ensures.bin;
    }

-- all points placed
every_bin : (xs points : List Cx) (n k : ℕ) → k ≡ 48 → ((bin : ℕ) → bin < 64 → entry xs bin ≡ placed points n k bin) → (bin : ℕ) → bin < 64 → entry xs bin ≡ symbol_bin points n bin
every_bin xs points n k all each bin lt = each bin lt ∙ ap (λ m. placed points n m bin) all ∙ all_placed points n bin

pub returns-clause-carriers : goal.returns-clause-carriers
returns-clause-carriers c =
    is_by_place (symbol_bin c.args.points.now c.args.n) c.loop-k.carriers c.loop-k.invariant.long
    (every_bin c.loop-k.carriers c.args.points.now c.args.n c.loop-k.k (omega arith) c.loop-k.invariant.each)

pub returns-clause-within : goal.returns-clause-within
returns-clause-within c = record {
  each = λ bin lt.
      let below : bin < 64 = omega (arith, c.loop-k.invariant.long) in
      rw (every_bin c.loop-k.carriers c.args.points.now c.args.n c.loop-k.k (omega arith) c.loop-k.invariant.each bin below) (symbol_within c.args.points.now c.args.n c.requires bin below);
}
