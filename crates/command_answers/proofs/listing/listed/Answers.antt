use Rattle.std.proofs.Common.{inr, refl}
use Rattle.command_answers.proofs.OfList.{bad_list, long_list, short_list}
use Rattle.command_answers.proofs.listing.listed.Goals as goal

pub returns-in-Err-BadList-clause-refused : goal.returns-in-Err-BadList-clause-refused
returns-in-Err-BadList-clause-refused c =
    let bad = rw c.in-Err-BadList.field-0-is at c.in-Err-BadList.ensures.bad in
    rw c.in-Err-BadList.at-is (inr (refl, bad_list c.args.text.now c.in-Err-BadList.at (bad c.in-Err-BadList.at refl)))

pub returns-in-Err-LongList-clause-refused : goal.returns-in-Err-LongList-clause-refused
returns-in-Err-LongList-clause-refused c =
    let long = rw c.in-Err-LongList.field-0-is at c.in-Err-LongList.ensures.long in
    rw c.in-Err-LongList.samples-is (inr (refl, long_list c.args.text.now c.in-Err-LongList.samples (long c.in-Err-LongList.samples refl)))

pub returns-clause-ok : goal.returns-clause-ok
returns-clause-ok c = rw c.in_ok-samples.ensures.samples (short_list c.args.text.now c.in-Ok.list c.in-Ok.ensures.list c.in-Ok.ensures.short)
