use Rattle.std.proofs.Common.{◌+◌, ◌-◌, drop, length, refl, sym, arith}
use Rattle.std.proofs.lemmas.List.{length-take}
use Rattle.journal_lines.proofs.BodyTexts.{body_has_object, body_of_one, body_behind, body_parted}
use Rattle.journal_lines.proofs.bodies.is_body.Goals as goal

pub returns : goal.returns
returns c = (λ t. absurd (cc), λ body. absurd (body_has_object c.objects.rest.now (sym c.in_default.ensures.value) (c.objects.invariant.on body)))

pub returns-then-length-size : goal.returns-then-length-size
returns-then-length-size c = (λ t. c.objects.invariant.back (body_of_one c.objects.rest.now c.in-Some.length (sym c.in-Some.ensures.value) (omega (arith, c.in-Some.ensures.within))), λ body. refl)

pub returns-then-rest-length-ne44 : goal.returns-then-rest-length-ne44
returns-then-rest-length-ne44 c =
    (λ t. absurd (cc), λ body. absurd (body_parted c.objects.rest.now c.in-Some.length (sym c.in-Some.ensures.value) (omega arith) c.if-rest-length-ne44.true (c.objects.invariant.on body)))

pub objects-preserved : goal.objects-preserved
objects-preserved c =
    let both = body_behind c.objects.rest.now c.in-Some.length (sym c.in-Some.ensures.value) (omega arith) c.if-rest-length-ne44.false in
    record {
      within = omega (arith, c.objects.invariant.within, length-take (length c.objects.rest.now - (c.in-Some.length + 1)) (drop (c.in-Some.length + 1) c.objects.rest.now));
      back = λ more. c.objects.invariant.back (both.0 more);
      on = λ body. both.1 (c.objects.invariant.on body);
    }
