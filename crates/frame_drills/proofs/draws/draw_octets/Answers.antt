use Rattle.std.proofs.Common.{◌≡◌, ◌+◌, ap, ◌∙◌, arith}
use Rattle.frame_drills.specs.Draws.{generator_behind}
use Rattle.frame_drills.proofs.Drawing.{octet_drawn}
use Rattle.frame_drills.proofs.draws.draw_octets.Goals as goal

pub loop-preserved : goal.loop-preserved
loop-preserved c = record {
  words = λ number there.
      let next : 4 + c.loop.counter + 1 ≡ 4 + (c.loop.counter + 1) = omega arith in
      c.draw_word.ensures.behind number (4 + c.loop.counter) (c.loop.invariant.words number there) ∙ ap (generator_behind number) next;
  octets = λ number there.
      octet_drawn number c.loop.counter c.draw_word.result _ _ (c.loop.invariant.octets number there) (c.draw_word.ensures.word number (4 + c.loop.counter) (c.loop.invariant.words number there)) c.in_ok-push.ensures.items;
}
