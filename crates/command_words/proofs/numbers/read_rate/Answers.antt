use Rattle.std.proofs.Common.{arith}
use Rattle.std.proofs.lemmas.Fmt.{decimal_injective}
use Rattle.rate_table.specs.Table.{row_of}
use Rattle.command_words.specs.Grammar.{NamesNoRate}
use Rattle.command_words.proofs.Absent.{IfNone-from}
use Rattle.command_words.proofs.Reading.{mbps_from}
use Rattle.command_words.proofs.numbers.read_rate.Goals as goal

pub returns-in_err-read_from-clause-none : goal.returns-in_err-read_from-clause-none
returns-in_err-read_from-clause-none c =
    IfNone-from _ (NamesNoRate c.args.word.now) (λ none rate same. c.in_err-read_from.ensures.none (row_of rate).mbps (mbps_from rate) same)

pub returns-clause-none : goal.returns-clause-none
returns-clause-none c =
    IfNone-from _ (NamesNoRate c.args.word.now) (λ none rate same.
    let unnamed = rw none at c.from_mbps.ensures.no_rate in
    let range = mbps_from rate in
    unnamed rate (decimal_injective (row_of rate).mbps c.in_ok-read_from.field-0 (omega (arith, range.1)) (omega (arith, c.in_ok-read_from.ensures.range.1)) (let written = c.in_ok-read_from.ensures.number in cc)))
