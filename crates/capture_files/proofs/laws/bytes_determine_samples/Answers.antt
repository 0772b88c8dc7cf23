use Rattle.capture_files.proofs.Bytes.{samples_alike}
use Rattle.capture_files.proofs.laws.bytes_determine_samples.Goals as goal

pub returns : goal.returns
returns c = samples_alike
