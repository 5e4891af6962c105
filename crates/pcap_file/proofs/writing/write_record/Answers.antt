use Rattle.std.proofs.Common.{rules}
use Rattle.pcap_file.specs.Writing.{EnvelopeFits}
use Rattle.pcap_file.proofs.Writes.{is_datagram, is_record}
use Rattle.pcap_file.proofs.writing.write_record.Goals as goal

pub returns-clause-record : goal.returns-clause-record
returns-clause-record c =
    let e = c.args.envelope.now in
    let fits : EnvelopeFits e = record {
      source = search rules;
      destination = search rules;
      source_port = search rules;
      destination_port = search rules;
    } in
    is_record e fits c.args.payload.now c.requires.few c.args.time c.requires.time

pub returns-clause-datagram : goal.returns-clause-datagram
returns-clause-datagram c =
    let e = c.args.envelope.now in
    let fits : EnvelopeFits e = record {
      source = search rules;
      destination = search rules;
      source_port = search rules;
      destination_port = search rules;
    } in
    is_datagram e fits c.args.payload.now c.requires.few
