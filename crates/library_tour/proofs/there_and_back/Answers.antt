use Rattle.std.proofs.Common.{[], ◌∷◌, None, ◌∙◌, arith, rules}
use Rattle.std.proofs.lemmas.List.Elements.{All-from_get_or}
use Rattle.bit_lists.specs.Bits.{AreOctets, IsOctet}
use Rattle.frame_findings.specs.Walk.{AreFindings}
use Rattle.frames_in_noise.specs.Laws.{heard_of}
use Rattle.ofdm_scrambler.specs.Sequence.{IsSeed}
use Rattle.library_tour.proofs.OneFrame.{all_heard, first_frame, heard_alone, one_is_heard, only_memory, uncut}
use Rattle.library_tour.proofs.there_and_back.Goals as goal

found : (c : goal.After-drop-samples) → AreFindings c.deref.result.now (heard_of (first_frame c.args.rate c.args.seed c.args.psdu.now) ∷ []) None
found c =
    let good : IsSeed c.args.seed = search rules in
    let octets : AreOctets c.args.psdu.now = All-from_get_or IsOctet c.args.psdu.now 0 (λ k inside. let fits = c.type_inv.psdu k in omega (arith, fits)) in
    one_is_heard c.sent_lists_are_heard.ensures c.args.rate c.args.seed c.args.psdu.now c.deref.result.now good c.requires octets (c.deref.ensures.value ∙ c.in_ok-samples.ensures.samples)

pub returns-clause-heard : goal.returns-clause-heard
returns-clause-heard c =
    heard_alone _ c.receive.result (all_heard c.one_reception.ensures.no_other c.deref.result.now (first_frame c.args.rate c.args.seed c.args.psdu.now) c.receive.result (found c) c.receive.ensures.findings)

pub returns-clause-no_cut : goal.returns-clause-no_cut
returns-clause-no_cut c =
    uncut _ c.receive.result (all_heard c.one_reception.ensures.no_other c.deref.result.now (first_frame c.args.rate c.args.seed c.args.psdu.now) c.receive.result (found c) c.receive.ensures.findings)

pub returns-clause-only_memory : goal.returns-clause-only_memory
returns-clause-only_memory c =
    only_memory c.one_reception.ensures.no_other c.deref.result.now (first_frame c.args.rate c.args.seed c.args.psdu.now) c.receive.result (found c) c.receive.ensures.no_frame c.receive.ensures.cut_frame
