use Rattle.std.proofs.Common.{length, drop, replicate, lit<}
use Rattle.std.proofs.lemmas.List.Elements.{All-append, All-drop, All-replicate}
use Rattle.bit_lists.specs.Bits.{IsBit, AreBits}
use Rattle.frame_fields.proofs.frames.interleaved_symbol.Goals as goal

pub interleave-requires : goal.interleave-requires
interleave-requires c =
    let copied : AreBits c.copy_from_slice.new.self = rw c.copy_from_slice.ensures.after c.requires.bits in
    All-append IsBit c.copy_from_slice.new.self (drop (length c.args.symbol.now) (replicate 288 0)) copied
    (All-drop IsBit (length c.args.symbol.now) (replicate 288 0) (All-replicate IsBit 288 0 (lit< tt)))
