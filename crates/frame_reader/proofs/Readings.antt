-- Decisions say one header, and a header has one field.
use Rattle.rate_table.specs.declared.Rate.TheVariants.{R6}
use Rattle.signal_field.proofs.Readings as signal
use Rattle.frame_fields.proofs.FieldLaws as fields
use Rattle.frame_reader.specs.Frames.{data_decisions, symbols_of}
use Rattle.frame_reader.specs.Laws.{OneFieldOfHeader, OneHeader, SomeFieldOfHeader, SomeHeader}

pub some_header : SomeHeader
some_header decisions = signal.some_reading (decisions R6 0)

pub one_header : OneHeader
one_header decisions x y first second = signal.one_reading (decisions R6 0) x y first second

pub some_field : SomeFieldOfHeader
some_field decisions header = fields.some_field header.rate header.length (data_decisions decisions header.rate (symbols_of header))

pub one_field : OneFieldOfHeader
one_field decisions header m n psdu other first second =
    let same = fields.one_field header.rate header.length (data_decisions decisions header.rate (symbols_of header)) m n psdu other first.0 second.0 first.1 second.1 in (
      same.0,
      same.1.0,
    )
