use Rattle.std.proofs.Common.{◌*◌, length, take, sym, ◌∙◌, ap}
use Rattle.std.proofs.lemmas.List.{length-map}
use Rattle.std.specs.List.{slice_index}
use Rattle.bit_lists.specs.Bits.{IsBit}
use Rattle.std.proofs.lemmas.List.Elements.{All-same}
use Rattle.puncture_map.specs.Kept.{kept_count, kept_places}
use Rattle.rate_table.specs.Table.{row_of}
use Rattle.puncture_map.proofs.Counts.{kept_count-symbols}
use Rattle.puncture_map.proofs.KeptBits.{kept_bits, AreBits-kept_bits, kept_list-take}
use Rattle.puncture_map.proofs.puncture.Goals as goal

pub returns-clause-list : goal.returns-clause-list
returns-clause-list c = c.in_ok-put_rest.ensures c.in_ok-place.ensures.kept

pub returns-clause-bits : goal.returns-clause-bits
returns-clause-bits c =
    let code = c.args.code.now in
    let bits = AreBits-kept_bits c.args.rate code (length code) c.requires.bits in
    All-same IsBit c.put_rest.new.bits.items (kept_bits c.args.rate code (length code)) (returns-clause-list c) bits

pub returns-clause-whole_symbols : goal.returns-clause-whole_symbols
returns-clause-whole_symbols c = λ r symbols same long.
    let code = c.args.code.now in
    ap length (returns-clause-list c)
    ∙ length-map (kept_places c.args.rate (length code)) (slice_index code)
    ∙ ap (λ n. length (kept_places c.args.rate n)) long
    ∙ kept_count-symbols r c.args.rate symbols same

pub returns-clause-symbol_by_symbol : goal.returns-clause-symbol_by_symbol
returns-clause-symbol_by_symbol c = λ r symbols same within.
    let law = kept_count-symbols r c.args.rate symbols same in
    ap (λ n. take n c.put_rest.new.bits.items) (sym law)
    ∙ ap (take (kept_count c.args.rate (symbols * (row_of r).field_bits))) (returns-clause-list c)
    ∙ kept_list-take c.args.rate c.args.code.now (2 * (symbols * (row_of r).field_bits)) within
