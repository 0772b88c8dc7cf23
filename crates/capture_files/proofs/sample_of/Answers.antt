use Rattle.std.proofs.Common.{◌∙◌, rules}
use Rattle.std.specs.Int.{w16}
use Rattle.std.proofs.lemmas.Int.{to_z-of_z}
use Rattle.capture_files.proofs.Bytes.{sample_read}
use Rattle.capture_files.proofs.sample_of.Goals as goal

pub returns-clause-bytes : goal.returns-clause-bytes
returns-clause-bytes c =
    let i = to_z-of_z w16 c.read_i16.result (search rules) ∙ c.read_i16.ensures in
    let q = to_z-of_z w16 c.read_i16-2.result (search rules) ∙ c.read_i16-2.ensures in
    sample_read c.args.bytes.now _ _ c.requires (λ k lt. let h = c.type_inv.bytes k in search rules) i q
