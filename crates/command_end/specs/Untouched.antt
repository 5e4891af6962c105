-- What a command leaves as it was where it is refused (own).
use Rattle.std.specs.Prelude.{◌≡◌}
use Rattle.devices.specs.Passed.{file_took, output_took}
use Rattle.devices.specs.declared.file_output.FileOutput.{FileOutput}
use Rattle.devices.specs.declared.output.OutputSink.{OutputSink}

-- a file took nothing more, and nothing was printed
abbrev pub AreUntouched : {R : Type 0} → FileOutput → FileOutput → OutputSink R → OutputSink R
    → Type 0
AreUntouched file file' output output' =
    (file_took file' ≡ file_took file) × (output_took output' ≡ output_took output)
