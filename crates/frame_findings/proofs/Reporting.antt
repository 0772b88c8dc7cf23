-- What stands at each edge is one thing, and is reported in one way.
use Rattle.std.proofs.Common.{◌≡◌, ℕ, zero, suc, ◌+◌, ◌<◌, ◌≤◌, ◌∙◌, List, [], ◌∷◌, length, drop, pos, false, refl, sym, ap, arith, inl, inr, take, ◌++◌, append_assoc, true}
use Rattle.std.proofs.lemmas.Bool.{cases_Bool, cases_lt}
use Rattle.std.specs.Prelude.{Result}
use Rattle.std.proofs.lemmas.List.{append-nil, get_or_past, length-take-le, take-append-drop}
use Rattle.fixed_complex.specs.declared.Sample.{Sample}
use Rattle.fixed_complex.specs.Samples.{sample_at}
use Rattle.rate_table.specs.declared.Rate.TheVariants.{R6}
use Rattle.signal_field.specs.declared.Header.{Header}
use Rattle.signal_field.specs.declared.HeaderFault.{HeaderFault}
use Rattle.lane_kernels.specs.Kernels.{is_loud}
use Rattle.frame_search.specs.Edges.{IsEdge, IsNextEdge, NoEdge}
use Rattle.frame_search.specs.Match.{matches, part}
use Rattle.frame_search.proofs.Runs.{edge_or_not}
use Rattle.frame_reader.specs.Decisions.{plain_decisions}
use Rattle.frame_reader.specs.Frames.{SaysHeader}
use Rattle.frame_reader.proofs.Fronts.{decisions_front, part_front}
use Rattle.frame_reader.proofs.Readings.{one_header, some_header}
use Rattle.frame_findings.specs.declared.EdgeReport.{EdgeReport}
use Rattle.frame_findings.specs.declared.Finding.{Finding}
use Rattle.frame_findings.specs.declared.Finding.TheVariants.{Short, NoMatch}
use Rattle.frame_findings.specs.Laws.{OneReports, SomeReports}
use Rattle.frame_findings.specs.Reports.{AreReports, IsFinding, finding_of, header, no_match, short}
use Rattle.frame_findings.proofs.Places.{IsLeast, none_or_least, one_least}

one_finding : (samples : List Sample) (x y : Finding) → IsFinding samples x → IsFinding samples y → x ≡ y
one_finding samples x y (short few is) (short few' is') = is ∙ sym is'
one_finding samples x y (short few is) (no_match long unlike is') = absurd (omega arith)
one_finding samples x y (short few is) (header long like read says is') = absurd (omega arith)
one_finding samples x y (no_match long unlike is) (short few is') = absurd (omega arith)
one_finding samples x y (no_match long unlike is) (no_match long' unlike' is') = is ∙ sym is'
one_finding samples x y (no_match long unlike is) (header long' like read says is') = absurd (cc)
one_finding samples x y (header long like read says is) (short few is') = absurd (omega arith)
one_finding samples x y (header long like read says is) (no_match long' unlike is') = absurd (cc)
one_finding samples x y (header long like read says is) (header long' like' read' says' is') =
    is ∙ ap finding_of (one_header (plain_decisions samples) read read' says says') ∙ sym is'

some_finding : (samples : List Sample) → (finding : Finding) × IsFinding samples finding
some_finding samples =
    elim (cases_lt (length samples) 400) [
      | inl few ↦ (Short, short few refl)
      | inr long ↦ elim (cases_Bool (matches (part samples 0 320))) [
        | inl like ↦
            let read = some_header (plain_decisions samples) in
            (finding_of read.0, header long like read.0 read.1 refl)
        | inr unlike ↦ (NoMatch, no_match long unlike refl)
      ]
    ]

least_of : (capture : List Sample) (from place : ℕ) → IsNextEdge capture from place → IsLeast (IsEdge capture) from place
least_of capture from place next = record { least = next.least; here = next.edge; none_before = next.none_before }

-- an edge is a loud sample, so it stands within the capture
edge_within : (capture : List Sample) (place : ℕ) → IsEdge capture place → place < length capture
edge_within capture place edge =
    elim (cases_lt place (length capture)) [
      | inl inside ↦ inside
      | inr past ↦ let silent : is_loud (sample_at capture place) ≡ false = ap is_loud (get_or_past capture place (record { i = pos 0; q = pos 0 }) past) in
          let loud = edge.loud in
          absurd (cc)
    ]

no_edge_left : (capture : List Sample) (from place : ℕ) → IsNextEdge capture from place → NoEdge capture from (length capture) → ⊥
no_edge_left capture from place next none = none place next.least (edge_within capture place next.edge) next.edge

reports_alike : (report other : EdgeReport) → report.place ≡ other.place → report.finding ≡ other.finding → report ≡ other
reports_alike report other place finding =
    ap (λ n. record { place = n; finding = report.finding }) place ∙ ap (λ what. record { place = other.place; finding = what }) finding

one_list : (capture : List Sample) (from : ℕ) (reports others : List EdgeReport) → AreReports capture from reports → AreReports capture from others → reports ≡ others
one_list capture from [] [] first second = refl
one_list capture from [] (other ∷ others) first second = absurd (no_edge_left capture from other.place second.0 first)
one_list capture from (report ∷ reports) [] first second = absurd (no_edge_left capture from report.place first.0 second)
one_list capture from (report ∷ reports) (other ∷ others) first second =
    let place = one_least (IsEdge capture) from report.place other.place (least_of capture from report.place first.0) (least_of capture from other.place second.0) in
    let there = rw (sym place) at second.1 in
    let finding = one_finding (drop report.place capture) report.finding other.finding first.1 there in
    let behind = rw (sym place) at second.2 in
    let rest = one_list capture (report.place + 1) reports others first.2 behind in
    ap (λ r. r ∷ reports) (reports_alike report other place finding) ∙ ap (λ list. other ∷ list) rest

pub one_reports : OneReports
one_reports capture reports others first second = one_list capture 0 reports others first second

some_list : (capture : List Sample) (left from : ℕ) → length capture ≤ from + left → (reports : List EdgeReport) × AreReports capture from reports
some_list capture zero from all = ([], λ place least below edge. absurd (omega arith))
some_list capture (suc left) from all =
    elim (none_or_least (IsEdge capture) (edge_or_not capture) (length capture) from) [
      | inl none ↦ ([], λ place least below edge. none place least (omega arith) edge)
      | inr found ↦
          let least = found.1.least in
          let finding = some_finding (drop found.0 capture) in
          let rest = some_list capture left (found.0 + 1) (omega arith) in (
            record { place = found.0; finding = finding.0 } ∷ rest.0,
            (record { least = found.1.least; edge = found.1.here; none_before = found.1.none_before }, finding.1, rest.1),
          )
    ]

pub some_reports : SomeReports
some_reports capture = some_list capture (length capture) 0 (omega arith)

-- the first 400 samples say what all do
record SaysTheSame (xs samples : List Sample) : Type 0 where
  like : matches (part samples 0 320) ≡ matches (part xs 0 320)
  signal : plain_decisions samples R6 0 ≡ plain_decisions xs R6 0

first_400 : (xs samples : List Sample) → samples ≡ take 400 xs → 400 ≤ length xs → SaysTheSame xs samples
first_400 xs samples is long =
    let both = take-append-drop 400 xs in
    let front : length (take 400 xs) ≡ 400 = length-take-le 400 xs long in
    record {
      like = ap (λ list. matches (part list 0 320)) is ∙ ap matches (sym (part_front (take 400 xs) (drop 400 xs) 0 320 (omega arith))) ∙ ap (λ list. matches (part list 0 320)) both;
      signal = ap (λ list. plain_decisions list R6 0) is ∙ sym (decisions_front (take 400 xs) (drop 400 xs) R6 0 (omega arith)) ∙ ap (λ list. plain_decisions list R6 0) both;
    }

pub finding_no_match : (xs samples : List Sample) → samples ≡ take 400 xs → 400 ≤ length xs → matches (part samples 0 320) ≡ false → IsFinding xs NoMatch
finding_no_match xs samples is long unlike =
    let same = first_400 xs samples is long in
    no_match long (sym same.like ∙ unlike) refl

pub finding_header : (xs samples : List Sample) (read : Result Header HeaderFault) (finding : Finding) → samples ≡ take 400 xs → 400 ≤ length xs
    → matches (part samples 0 320) ≡ true → SaysHeader (plain_decisions samples) read → finding ≡ finding_of read → IsFinding xs finding
finding_header xs samples read finding is long like says made =
    let same = first_400 xs samples is long in
    let signal = same.signal in
    header long (sym same.like ∙ like) read (rw signal at says) made

-- one report more
pub report_next : (capture : List Sample) (from : ℕ) (reports : List EdgeReport) (report : EdgeReport)
    → ((rest : List EdgeReport) → AreReports capture from rest → AreReports capture 0 (reports ++ rest)) → IsNextEdge capture from report.place
    → IsFinding (drop report.place capture) report.finding → (rest : List EdgeReport) → AreReports capture (report.place + 1) rest
    → AreReports capture 0 ((reports ++ report ∷ []) ++ rest)
report_next capture from reports report reported next finding rest behind =
    let all = reported (report ∷ rest) (next, finding, behind) in
    rw append_assoc all

-- and none
pub report_none : (capture : List Sample) (from : ℕ) (reports : List EdgeReport) → ((rest : List EdgeReport) → AreReports capture from rest → AreReports capture 0 (reports ++ rest))
    → NoEdge capture from (length capture) → AreReports capture 0 reports
report_none capture from reports reported none =
    let all = reported [] none in
    rw append-nil at all

-- an edge stands before the end
pub next_within : (capture : List Sample) (from place : ℕ) → IsNextEdge capture from place → place < length capture
next_within capture from place next = edge_within capture place next.edge
