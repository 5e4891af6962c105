-- What the commands are asked for, by the words of the command line (own).
use Rattle.std.specs.Prelude.{◌≡◌, List, Option, map, option_map}
use Rattle.command_line.specs.declared.words.MergeWords.{MergeWords}
use Rattle.command_line.specs.declared.words.ProcessWords.{ProcessWords}
use Rattle.devices.specs.Passed.{file_path, written_name}
use Rattle.devices.specs.declared.file_output.FileOutput.{FileOutput}
use Rattle.devices.specs.declared.file_source.FileSource.{FileSource}
use Rattle.receiver_engines.specs.declared.processing.Processing.{Processing}

-- `merge` reads and writes the files that its words name.
pub record IsMergeOf (words : MergeWords) (left : FileSource) (others : List FileSource)
    (state : FileOutput) : Type 0 where
  pub left_is : file_path left ≡ words.left.now
  pub others_are : map file_path others ≡ map (λ n. n.now) words.others.items
  pub state_is : written_name state ≡ words.state.now

-- what `process` is asked for is what its words say
pub record IsProcessingOf (words : ProcessWords) (p : Processing) : Type 0 where
  pub job : p.job.now ≡ words.job.now
  pub timestamp : p.timestamp ≡ words.timestamp
  pub fill : p.fill.now ≡ words.fill.now
  pub payload_type : p.stamp.payload_type ≡ words.stamp.payload_type
  pub first : p.stamp.first ≡ words.stamp.first
  pub base : p.stamp.timestamp ≡ words.stamp.base
  pub ssrc : p.stamp.ssrc ≡ words.stamp.ssrc
  pub max_octets : p.max_octets ≡ words.max_octets

-- `process` does so with the files that its words name.
pub record IsProcessOf (words : ProcessWords) (wanted : Processing) (sdp : Option FileSource)
    (states : List FileSource) (hold : Option FileSource) (out : FileOutput) : Type 0 where
  pub asked : IsProcessingOf words wanted
  pub sdp_is : option_map file_path sdp ≡ option_map (λ n. n.now) words.sdp
  pub states_are : map file_path states ≡ map (λ n. n.now) words.states.items
  pub hold_is : option_map file_path hold ≡ option_map (λ n. n.now) words.hold
  pub out_is : written_name out ≡ words.out.now
