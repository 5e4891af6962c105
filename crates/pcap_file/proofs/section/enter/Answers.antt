use Rattle.std.proofs.Common.{◌≡◌, length, sym, subst, Result, Ok, Err}
use Rattle.std.specs.Prelude.{IfErr, IfOk}
use Rattle.pcap_file.specs.declared.fault.RecordingFault.{RecordingFault}
use Rattle.pcap_file.specs.NgSteps.{Known, Stepped, known, step_seen}
use Rattle.pcap_file.proofs.Entering.{of_enhanced, of_interface, of_obsolete, of_other, of_simple}
use Rattle.pcap_file.proofs.Entering.{packet_fault, packet_goes_on, packet_named, packet_ok}
use Rattle.pcap_file.proofs.Entering.{packet_within}
use Rattle.pcap_file.proofs.section.enter.Goals as goal

pub returns-then-kind-eq-INTERFACE-clause-ok : goal.returns-then-kind-eq-INTERFACE-clause-ok
returns-then-kind-eq-INTERFACE-clause-ok c =
    subst (λ (x : Result (Known × Stepped) RecordingFault). IfOk c.describe.result
    (λ s. x ≡ Ok (known c.describe.new.section, step_seen s c.args.body.now)))
    (sym (of_interface (known c.args.section.now) c.args.kind c.args.body.now
    c.if-kind-eq-INTERFACE.true)) c.describe.ensures.ok

pub returns-then-kind-eq-INTERFACE-clause-fault : goal.returns-then-kind-eq-INTERFACE-clause-fault
returns-then-kind-eq-INTERFACE-clause-fault c =
    subst (λ (x : Result (Known × Stepped) RecordingFault). IfErr c.describe.result
    (λ f. x ≡ Err f))
    (sym (of_interface (known c.args.section.now) c.args.kind c.args.body.now
    c.if-kind-eq-INTERFACE.true)) c.describe.ensures.fault

pub returns-then-kind-eq-OBSOLETE-clause-ok : goal.returns-then-kind-eq-OBSOLETE-clause-ok
returns-then-kind-eq-OBSOLETE-clause-ok c =
    packet_ok (known c.args.section.now) 20 c.args.body.now c.read_obsolete.result
    c.packet_step.result _ c.packet_step.ensures
    (of_obsolete (known c.args.section.now) c.args.kind c.args.body.now
    c.as_slice-interfaces.result.now c.read_obsolete.result c.if-kind-eq-OBSOLETE.true
    c.as_slice-interfaces.ensures.value c.read_obsolete.ensures.exact)

pub returns-then-kind-eq-OBSOLETE-clause-within : goal.returns-then-kind-eq-OBSOLETE-clause-within
returns-then-kind-eq-OBSOLETE-clause-within c =
    packet_within 20 (length c.args.body.now) c.read_obsolete.result c.packet_step.result
    c.packet_step.ensures c.read_obsolete.ensures.within

pub returns-then-kind-eq-OBSOLETE-clause-goes_on : goal.returns-then-kind-eq-OBSOLETE-clause-goes_on
returns-then-kind-eq-OBSOLETE-clause-goes_on c =
    packet_goes_on 20 c.read_obsolete.result c.packet_step.result c.packet_step.ensures

pub returns-then-kind-eq-OBSOLETE-clause-fault : goal.returns-then-kind-eq-OBSOLETE-clause-fault
returns-then-kind-eq-OBSOLETE-clause-fault c =
    packet_fault (known c.args.section.now) 20 c.args.body.now c.read_obsolete.result
    c.packet_step.result _ c.packet_step.ensures
    (of_obsolete (known c.args.section.now) c.args.kind c.args.body.now
    c.as_slice-interfaces.result.now c.read_obsolete.result c.if-kind-eq-OBSOLETE.true
    c.as_slice-interfaces.ensures.value c.read_obsolete.ensures.exact)

pub returns-then-kind-eq-OBSOLETE-clause-named : goal.returns-then-kind-eq-OBSOLETE-clause-named
returns-then-kind-eq-OBSOLETE-clause-named c =
    packet_named 20 c.read_obsolete.result c.packet_step.result c.packet_step.ensures
    c.read_obsolete.ensures.named

pub returns-then-kind-eq-SIMPLE-clause-ok : goal.returns-then-kind-eq-SIMPLE-clause-ok
returns-then-kind-eq-SIMPLE-clause-ok c =
    packet_ok (known c.args.section.now) 4 c.args.body.now c.read_simple.result
    c.packet_step-then-kind-eq-SIMPLE.result _ c.packet_step-then-kind-eq-SIMPLE.ensures
    (of_simple (known c.args.section.now) c.args.kind c.args.body.now
    c.as_slice-interfaces.result.now c.read_simple.result c.if-kind-eq-SIMPLE.true
    c.as_slice-interfaces.ensures.value c.read_simple.ensures.exact)

pub returns-then-kind-eq-SIMPLE-clause-within : goal.returns-then-kind-eq-SIMPLE-clause-within
returns-then-kind-eq-SIMPLE-clause-within c =
    packet_within 4 (length c.args.body.now) c.read_simple.result c.packet_step-then-kind-eq-SIMPLE.result
    c.packet_step-then-kind-eq-SIMPLE.ensures c.read_simple.ensures.within

pub returns-then-kind-eq-SIMPLE-clause-goes_on : goal.returns-then-kind-eq-SIMPLE-clause-goes_on
returns-then-kind-eq-SIMPLE-clause-goes_on c =
    packet_goes_on 4 c.read_simple.result c.packet_step-then-kind-eq-SIMPLE.result c.packet_step-then-kind-eq-SIMPLE.ensures

pub returns-then-kind-eq-SIMPLE-clause-fault : goal.returns-then-kind-eq-SIMPLE-clause-fault
returns-then-kind-eq-SIMPLE-clause-fault c =
    packet_fault (known c.args.section.now) 4 c.args.body.now c.read_simple.result
    c.packet_step-then-kind-eq-SIMPLE.result _ c.packet_step-then-kind-eq-SIMPLE.ensures
    (of_simple (known c.args.section.now) c.args.kind c.args.body.now
    c.as_slice-interfaces.result.now c.read_simple.result c.if-kind-eq-SIMPLE.true
    c.as_slice-interfaces.ensures.value c.read_simple.ensures.exact)

pub returns-then-kind-eq-SIMPLE-clause-named : goal.returns-then-kind-eq-SIMPLE-clause-named
returns-then-kind-eq-SIMPLE-clause-named c =
    packet_named 4 c.read_simple.result c.packet_step-then-kind-eq-SIMPLE.result c.packet_step-then-kind-eq-SIMPLE.ensures
    c.read_simple.ensures.named

pub returns-then-kind-eq-ENHANCED-clause-ok : goal.returns-then-kind-eq-ENHANCED-clause-ok
returns-then-kind-eq-ENHANCED-clause-ok c =
    packet_ok (known c.args.section.now) 20 c.args.body.now c.read_enhanced.result
    c.packet_step-then-kind-eq-ENHANCED.result _ c.packet_step-then-kind-eq-ENHANCED.ensures
    (of_enhanced (known c.args.section.now) c.args.kind c.args.body.now
    c.as_slice-interfaces.result.now c.read_enhanced.result c.if-kind-eq-ENHANCED.true
    c.as_slice-interfaces.ensures.value c.read_enhanced.ensures.exact)

pub returns-then-kind-eq-ENHANCED-clause-within : goal.returns-then-kind-eq-ENHANCED-clause-within
returns-then-kind-eq-ENHANCED-clause-within c =
    packet_within 20 (length c.args.body.now) c.read_enhanced.result c.packet_step-then-kind-eq-ENHANCED.result
    c.packet_step-then-kind-eq-ENHANCED.ensures c.read_enhanced.ensures.within

pub returns-then-kind-eq-ENHANCED-clause-goes_on : goal.returns-then-kind-eq-ENHANCED-clause-goes_on
returns-then-kind-eq-ENHANCED-clause-goes_on c =
    packet_goes_on 20 c.read_enhanced.result c.packet_step-then-kind-eq-ENHANCED.result c.packet_step-then-kind-eq-ENHANCED.ensures

pub returns-then-kind-eq-ENHANCED-clause-fault : goal.returns-then-kind-eq-ENHANCED-clause-fault
returns-then-kind-eq-ENHANCED-clause-fault c =
    packet_fault (known c.args.section.now) 20 c.args.body.now c.read_enhanced.result
    c.packet_step-then-kind-eq-ENHANCED.result _ c.packet_step-then-kind-eq-ENHANCED.ensures
    (of_enhanced (known c.args.section.now) c.args.kind c.args.body.now
    c.as_slice-interfaces.result.now c.read_enhanced.result c.if-kind-eq-ENHANCED.true
    c.as_slice-interfaces.ensures.value c.read_enhanced.ensures.exact)

pub returns-then-kind-eq-ENHANCED-clause-named : goal.returns-then-kind-eq-ENHANCED-clause-named
returns-then-kind-eq-ENHANCED-clause-named c =
    packet_named 20 c.read_enhanced.result c.packet_step-then-kind-eq-ENHANCED.result c.packet_step-then-kind-eq-ENHANCED.ensures
    c.read_enhanced.ensures.named

pub returns-clause-ok : goal.returns-clause-ok
returns-clause-ok c =
    of_other (known c.args.section.now) c.args.kind c.args.body.now c.if-kind-eq-INTERFACE.false
    c.if-kind-eq-OBSOLETE.false c.if-kind-eq-SIMPLE.false c.if-kind-eq-ENHANCED.false
