-- What the devices of this machine gave and took so far, and how often each failed (own).
use Rattle.std.specs.Prelude.{◌≡◌, ℕ, List, None, true}
use Rattle.st_format.specs.History.{IsRead}
use Rattle.st_format.specs.declared.path.Path.{Path}
use Rattle.devices.specs.Written.{IsWithout, IsWrittenOut, taken_by, took_in}
use Rattle.devices.specs.declared.file_output.FileOutput.{FileOutput}
use Rattle.devices.specs.declared.file_output.Rest.TheVariants.{Goes}
use Rattle.devices.specs.declared.file_sink.FileSink.{FileSink}
use Rattle.devices.specs.declared.file_source.FileSource.{FileSource}
use Rattle.devices.specs.declared.file_source.Progress.TheVariants.{Past}
use Rattle.devices.specs.declared.input.InputSource.{InputSource}
use Rattle.devices.specs.declared.link.UdpLink.{UdpLink}
use Rattle.devices.specs.declared.output.OutputSink.{OutputSink}

-- the name that a file is opened by where it is read
abbrev pub file_path : FileSource → List ℕ
file_path f = f.path.now

-- a file that is read: what it gave
abbrev pub file_gave : FileSource → List ℕ
file_gave f = f.gave.octets

-- it told its end
abbrev pub file_ended : FileSource → Type 0
file_ended f = f.progress ≡ Past

-- how often it failed
abbrev pub file_failures : FileSource → ℕ
file_failures f = f.failures

-- what was read of it from one moment to the next
abbrev pub FileRead : FileSource → FileSource → List ℕ → Type 0
FileRead old new octets = IsRead (file_gave old) (file_gave new) (file_ended new) octets

-- what the octets of a file go to: what it took
abbrev pub sink_took : FileSink → List ℕ
sink_took s = taken_by s.progress

-- how often that failed
abbrev pub sink_failures : FileSink → ℕ
sink_failures s = s.failures

-- the name that a file has once it is written
abbrev pub written_name : FileOutput → List ℕ
written_name f = f.sink.name.now

-- a file that is written: what it took
abbrev pub file_took : FileOutput → List ℕ
file_took f = took_in f.placed f.sink.progress

-- how often a write to it failed
abbrev pub writing_failures : FileOutput → ℕ
writing_failures f = f.sink.failures

-- all that it took is in the file that has the name, or went into the stream that it is
abbrev pub IsInPlace : FileOutput → Type 0
IsInPlace f = IsWrittenOut f.placed f.sink.progress

-- what stood under its name stands there
abbrev pub IsUnplaced : FileOutput → Type 0
IsUnplaced f = f.placed ≡ None

-- nothing of it stays where it is not whole
abbrev pub LeavesNoPart : FileOutput → Type 0
LeavesNoPart f = f.rest ≡ Goes

-- no part of it stands beside its name
abbrev pub HasNoPart : FileOutput → Type 0
HasNoPart f = IsWithout f.sink.progress

-- standard input: what it gave
abbrev pub input_gave : {R : Type 0} → InputSource R → List ℕ
input_gave s = s.gave.octets

-- it told its end
abbrev pub input_ended : {R : Type 0} → InputSource R → Type 0
input_ended s = s.is_ended ≡ true

-- how often it failed
abbrev pub input_failures : {R : Type 0} → InputSource R → ℕ
input_failures s = s.failures

-- standard output and error: what they took
abbrev pub output_took : {W : Type 0} → OutputSink W → List ℕ
output_took s = s.took.octets

-- how often one failed
abbrev pub output_failures : {W : Type 0} → OutputSink W → ℕ
output_failures s = s.failures

-- two sockets: the datagrams that they took
abbrev pub link_took : UdpLink → List (List ℕ)
link_took l = l.took.datagrams

-- the datagrams that came, each with its path
abbrev pub link_came : UdpLink → List (Path × List ℕ)
link_came l = l.came.came

-- how many datagrams they count as come
abbrev pub link_delivered : UdpLink → ℕ
link_delivered l = l.delivered

-- how often they failed
abbrev pub link_failures : UdpLink → ℕ
link_failures l = l.failures
