-- What the steps of reading a frame at a start come to.
use Rattle.std.proofs.Common.{◌≡◌, ◌+◌, ◌*◌, ◌<◌, ◌≤◌, ℕ, suc, List, [], ◌++◌, length, drop, ap, sym, ◌∙◌, subst, refl, arith}
use Rattle.std.specs.Prelude.{Result, Ok, Err}
use Rattle.std.proofs.Math.Nat.{suc-mul}
use Rattle.std.proofs.lemmas.List.{length-append, length-drop}
use Rattle.fixed_complex.specs.declared.Sample.{Sample}
use Rattle.rate_table.specs.declared.Rate.{Rate}
use Rattle.rate_table.specs.Table.{row_of}
use Rattle.signal_field.specs.declared.Header.{Header}
use Rattle.signal_field.specs.declared.HeaderFault.{HeaderFault}
use Rattle.survivor_memory.specs.Survivors.{MemoryView}
use Rattle.viterbi_lanes.specs.Decisions.{carried_steps, marks_of}
use Rattle.viterbi_lanes.specs.Marks.{StandsFor}
use Rattle.frame_reader.specs.Frames.{SaysHeader, data_decisions, need_of, symbols_of}
use Rattle.frame_reader.proofs.Fronts.{data_more, data_none}
use Rattle.frame_findings.specs.declared.Heard.{Heard}
use Rattle.frame_findings.specs.Walk.{IsHeard}
use Rattle.frame_starts.specs.declared.AtFault.TheVariants.{CutAt}
use Rattle.frame_starts.specs.Starts.{IsFrameAt, ReadsAt, cut, heard, standing}

-- a trellis stands for the marks of the first so many DATA symbols
abbrev pub StandsAt : (Rate → ℕ → List ℕ) → Header → MemoryView → ℕ → ℕ → Type 0
StandsAt decisions header trellis symbols steps =
    StandsFor trellis (marks_of (row_of header.rate).code_rate (data_decisions decisions header.rate symbols) steps)

pub none_heard : (decisions : Rate → ℕ → List ℕ) (header : Header) (trellis : MemoryView) → StandsFor trellis []
    → StandsAt decisions header trellis 0 (carried_steps header.rate header.length 0)
none_heard decisions header trellis empty =
    let none : carried_steps header.rate header.length 0 ≡ 0 = omega arith in subst (StandsAt decisions header trellis 0) (sym none) empty

pub none_decided : (decisions : Rate → ℕ → List ℕ) (header : Header) → length (data_decisions decisions header.rate 0) ≡ 0 * (row_of header.rate).coded_bits
none_decided decisions header = let none : 0 * (row_of header.rate).coded_bits ≡ 0 = omega arith in ap length (data_none decisions header.rate) ∙ sym none

-- the decisions with those of one symbol more
pub joined : (decisions : Rate → ℕ → List ℕ) (rate : Rate) (symbol : ℕ) (next : List ℕ) → next ≡ decisions rate (symbol + 1)
    → data_decisions decisions rate symbol ++ next ≡ data_decisions decisions rate (symbol + 1)
joined decisions rate symbol next is = ap (λ list. data_decisions decisions rate symbol ++ list) is ∙ sym (data_more decisions rate symbol)

pub one_more_decided : (decisions : Rate → ℕ → List ℕ) (rate : Rate) (symbol : ℕ) (next : List ℕ) → next ≡ decisions rate (symbol + 1) → length next ≡ (row_of rate).coded_bits
    → length (data_decisions decisions rate symbol) ≡ symbol * (row_of rate).coded_bits
    → length (data_decisions decisions rate (symbol + 1)) ≡ (symbol + 1) * (row_of rate).coded_bits
one_more_decided decisions rate symbol next is long before =
    let more : suc symbol ≡ symbol + 1 = omega arith in
    ap length (sym (joined decisions rate symbol next is)) ∙ length-append (data_decisions decisions rate symbol) next ∙ ap (λ n. n + length next) before
    ∙ ap (λ n. symbol * (row_of rate).coded_bits + n) long ∙ sym (suc-mul symbol (row_of rate).coded_bits) ∙ ap (λ n. n * (row_of rate).coded_bits) more

pub all_heard : (decisions : Rate → ℕ → List ℕ) (header : Header) (trellis : MemoryView) (symbol steps : ℕ) → symbol ≡ symbols_of header
    → carried_steps header.rate header.length symbol ≡ steps → StandsAt decisions header trellis symbol (carried_steps header.rate header.length symbol)
    → StandsAt decisions header trellis (symbols_of header) steps
all_heard decisions header trellis symbol steps all carried stands =
    subst (λ n. StandsAt decisions header trellis n steps) all (subst (StandsAt decisions header trellis symbol) carried stands)

-- the header at a start, from the samples there
pub reads_at : (decisions : List Sample → Rate → ℕ → List ℕ) (capture samples : List Sample) (start : ℕ) (read : Result Header HeaderFault) → samples ≡ drop start capture
    → 400 ≤ length samples → SaysHeader (decisions samples) read → ReadsAt decisions capture start read
reads_at decisions capture samples start read is long says =
    (omega (arith, ap length is, length-drop start capture), subst (λ (s : List Sample). SaysHeader (decisions s) read) is says)

-- a frame that is cut by its header
pub cut_by_header : (decisions : List Sample → Rate → ℕ → List ℕ) (capture samples : List Sample) (start : ℕ) (header : Header) (need : ℕ) → samples ≡ drop start capture
    → ReadsAt decisions capture start (Ok header) → need ≡ need_of header → length samples < need
    → IsFrameAt decisions capture start (Err (CutAt start (length samples) need))
cut_by_header decisions capture samples start header need is reads all less =
    let count : length samples ≡ standing capture start = omega (arith, ap length is, length-drop start capture) in
    cut header reads (omega (arith, count, all, less))
    (ap (λ n. Err (CutAt start n need)) count ∙ ap (λ n. Err (CutAt start (standing capture start) n)) all)

-- and one that is whole
pub whole_at : (decisions : List Sample → Rate → ℕ → List ℕ) (capture samples : List Sample) (start : ℕ) (header : Header) (frame : Heard) → samples ≡ drop start capture
    → ReadsAt decisions capture start (Ok header) → frame.start ≡ start → IsHeard (decisions samples) capture header frame
    → IsFrameAt decisions capture start (Ok frame)
whole_at decisions capture samples start header frame is reads at has =
    heard header reads frame at (subst (λ (s : List Sample). IsHeard (decisions s) capture header frame) is has) refl
