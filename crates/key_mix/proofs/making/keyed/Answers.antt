use Rattle.std.proofs.Common.{refl, sym, ap, ◌∙◌, subst}
use Rattle.key_mix.specs.Sending.{HasBase}
use Rattle.key_mix.proofs.MadePictures.{keyed_made}
use Rattle.key_mix.proofs.making.keyed.Goals as goal

pub invariant_of-result : goal.invariant_of-result
invariant_of-result g c =
    let of_a = c.requires.format in
    let of_b = c.if-not-same.ensures.value.0 refl ∙ c.format.ensures.format in
    let of_by =
    c.if-not-same-2.ensures.value.0 refl ∙ c.format-else-not-same.ensures.format in
    let is_a = c.new.ensures in
    let is_b = c.new-2.ensures in
    let is_by = c.new-3.ensures in
    record {
      inputs = record {
        base_of_a = subst HasBase (sym is_a) c.requires.bases.0;
        base_of_b = subst HasBase (sym is_b) c.requires.bases.1;
        base_of_by = subst HasBase (sym is_by) c.requires.bases.2;
        format_of_a = (λ j. (is_a j).frame.now.format) ∙ sym of_a;
        format_of_b = (λ j. (is_b j).frame.now.format) ∙ sym of_b;
        format_of_by = (λ j. (is_by j).frame.now.format) ∙ sym of_by;
      };
      whole =
          (keyed_made c.new.result c.new-2.result c.new-3.result c.args.a.now c.args.b.now c.args.by.now c.args.format is_a is_b is_by
          of_a of_b of_by c.settled_facts.ensures c.settled_facts-2.ensures).0;
    }

pub returns-clause-made : goal.returns-clause-made
returns-clause-made g c =
    let of_a = c.requires.format in
    let of_b = c.if-not-same.ensures.value.0 refl ∙ c.format.ensures.format in
    let of_by =
    c.if-not-same-2.ensures.value.0 refl ∙ c.format-else-not-same.ensures.format in
    (keyed_made c.new.result c.new-2.result c.new-3.result c.args.a.now c.args.b.now c.args.by.now
    c.args.format c.new.ensures c.new-2.ensures c.new-3.ensures of_a of_b of_by
    c.settled_facts.ensures c.settled_facts-2.ensures).1

pub returns-clause-whole : goal.returns-clause-whole
returns-clause-whole g c =
    let of_a = c.requires.format in
    let of_b = c.if-not-same.ensures.value.0 refl ∙ c.format.ensures.format in
    let of_by =
    c.if-not-same-2.ensures.value.0 refl ∙ c.format-else-not-same.ensures.format in
    (keyed_made c.new.result c.new-2.result c.new-3.result c.args.a.now c.args.b.now c.args.by.now
    c.args.format c.new.ensures c.new-2.ensures c.new-3.ensures of_a of_b of_by
    c.settled_facts.ensures c.settled_facts-2.ensures).0
