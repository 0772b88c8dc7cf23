-- The symbols of a frame: what each carries fits a body, and SIGNAL withstands the noise of each rate.
use Rattle.std.proofs.Common.{ℕ, zero, suc, ◌≤◌, length, subst, sym, arith}
use Rattle.rate_table.specs.declared.Rate.{Rate}
use Rattle.rate_table.specs.Symbols.{symbol_count}
use Rattle.rate_table.specs.Table.{row_of}
use Rattle.symbol_builder.specs.Carriers.{symbol_bin}
use Rattle.decided_axis.specs.Bodies.{FitABody}
use Rattle.decided_axis.proofs.Fitting.{symbol_fit}
use Rattle.frame_fields.specs.Frames.{frame_bin}
use Rattle.frame_lists.specs.Near.{SentFrame}
use Rattle.exact_decisions.specs.Sent.{rate_of_symbol}
use Rattle.exact_decisions.proofs.Codes.{code_bits, code_long, same_points}
use Rattle.rate_table.proofs.ByRate.{noise_bound_from}

-- what each symbol carries fits a body
pub frame_fit : (frame : SentFrame) (n : ℕ) → n ≤ symbol_count (row_of frame.rate).field_bits (length frame.psdu) → FitABody (frame_bin frame.rate frame.seed frame.psdu n)
frame_fit frame n sent =
    subst (λ points. FitABody (symbol_bin points n)) (sym (same_points frame.rate frame.seed frame.psdu n))
    (symbol_fit _ _ n (code_bits frame.rate frame.seed frame.psdu n) (code_long frame.rate frame.seed frame.psdu n sent))

pub bound_of_symbol : (rate : Rate) (bound n : ℕ) → bound ≤ (row_of rate).noise_bound → bound ≤ (row_of (rate_of_symbol rate n)).noise_bound
bound_of_symbol rate bound zero least = omega (arith, noise_bound_from rate)
bound_of_symbol rate bound (suc m) least = least
