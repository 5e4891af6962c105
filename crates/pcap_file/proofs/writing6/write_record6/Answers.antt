use Rattle.std.proofs.Common.{rules}
use Rattle.pcap_file.specs.Writing6.{EnvelopeFits6}
use Rattle.pcap_file.proofs.Writes6.{is_datagram6, is_record6}
use Rattle.pcap_file.proofs.writing6.write_record6.Goals as goal

pub returns-clause-record : goal.returns-clause-record
returns-clause-record c =
    let e = c.args.envelope.now in
    let fits : EnvelopeFits6 e = record {
      source = search rules;
      destination = search rules;
      source_port = search rules;
      destination_port = search rules;
    } in
    is_record6 e fits c.args.payload.now c.requires.few c.args.time c.requires.time

pub returns-clause-datagram : goal.returns-clause-datagram
returns-clause-datagram c =
    let e = c.args.envelope.now in
    let fits : EnvelopeFits6 e = record {
      source = search rules;
      destination = search rules;
      source_port = search rules;
      destination_port = search rules;
    } in
    is_datagram6 e fits c.args.payload.now c.requires.few
