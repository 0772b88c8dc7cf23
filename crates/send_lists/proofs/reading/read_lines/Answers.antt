use Rattle.std.proofs.Common.{◌≡◌, ◌+◌, ◌≤◌, ℕ, List, Err, inl, inr, drop, length, refl, sym, ap, subst, arith, length-drop}
use Rattle.std.proofs.lemmas.List.{take_rest}
use Rattle.list_texts.specs.Lists.{IsList}
use Rattle.list_texts.specs.declared.Entry.{Entry}
use Rattle.send_lists.proofs.Texts.{AreReadUpTo, all_read, bad_from, line_read, line_within, none_read}
use Rattle.word_grammar.specs.Places.{IsBadAt}
use Rattle.send_lists.proofs.reading.read_lines.Goals as goal

pub loop-len-init : goal.loop-len-init
loop-len-init c = record {
  read = subst (λ (kept : List Entry). AreReadUpTo c.args.text.now 0 kept 0) (sym c.new.ensures.items) (none_read c.args.text.now);
  within = omega arith;
  more = inl refl;
  paced = omega arith;
}

pub returns-in-Err-BadLine-clause-bad : goal.returns-in-Err-BadLine-clause-bad
returns-in-Err-BadLine-clause-bad c =
    let bad = rw take_rest at c.in-Err-BadLine.ensures.bad in
    let place : ℕ = c.in-Err-BadLine.at in
    let here = bad place (ap Err c.in-Err-BadLine.field-0-is) in
    let whole = bad_from c.args.text.now c.loop-len.from _ _ place c.loop-len.invariant.read c.loop-len.invariant.more here in
    λ at e.
    let told = rw c.in-Err-BadLine.field-0-is at e in
    let same : c.loop-len.from + place ≡ at = cc in
    subst (λ (n : ℕ). IsBadAt IsList c.args.text.now n) same whole

pub returns-then-from-text-clause-lines : goal.returns-then-from-text-clause-lines
returns-then-from-text-clause-lines c =
    let line = rw take_rest at c.in-Ok.ensures.line in
    all_read c.args.text.now c.loop-len.from c.in-Ok.len _ _ _ _ c.loop-len.invariant.read line c.if-from-text.true

pub loop-len-preserved : goal.loop-len-preserved
loop-len-preserved c =
    let line = rw take_rest at c.in-Ok.ensures.line in
    let within : c.in-Ok.len ≤ length (drop c.loop-len.from c.args.text.now) = line_within _ _ _ _ _ _ line in
    let inside : c.loop-len.from + c.in-Ok.len ≤ length c.args.text.now = omega (arith, within, length-drop c.loop-len.from c.args.text.now, c.loop-len.invariant.within) in
    record {
      read = line_read c.args.text.now c.loop-len.from c.in-Ok.len _ _ _ _ c.loop-len.invariant.read line;
      within = inside;
      more = inr (omega (arith, inside, c.if-from-text.false));
      paced = omega (arith, c.loop-len.invariant.paced, line.at_most, line.len_is);
    }
