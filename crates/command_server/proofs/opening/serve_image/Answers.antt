use Rattle.std.proofs.Common.{◌∙◌, inl, inr, refl, sym, ap, subst, Option}
use Rattle.std.specs.Prelude.{IsSomeAnd}
use Rattle.disk_model.specs.Disk.{State}
use Rattle.disk_model.specs.Media.{Fixed, image_named}
use Rattle.log_volume.specs.Finding.{Finds}
use Rattle.command_server.proofs.OpeningLemmas.{unchanged_mounted, found_cause, served}
use Rattle.command_server.proofs.opening.serve_image.Goals as goal

pub returns-in-Ok-mount-clause-served : goal.returns-in-Ok-mount-clause-served
returns-in-Ok-mount-clause-served g c =
    inr (served (λ is. c.in-Ok.ensures.found is refl) c.in-Ok.ensures.moments c.mount.ensures.moments c.in-Ok-mount.ensures.fits c.in-Ok-mount.ensures.synced c.serve_mounted.ensures.session)

pub returns-in-Err-Found-clause-served : goal.returns-in-Err-Found-clause-served
returns-in-Err-Found-clause-served g c = let mount = rw c.in-Err-Found.field-0-is at c.in-Err-Found.ensures in inl (record {
  source = refl;
  unchanged = unchanged_mounted (λ is. c.in-Ok.ensures.found is refl)
      (λ is other. ap (λ (f : Fixed). image_named f (g.M.Disk.state c.open.new.self) other) c.mount.ensures.fixed ∙ c.in-Ok.ensures.others is other (inr refl))
      c.in-Ok.ensures.moments c.mount.ensures.same c.mount.ensures.moments;
  cause = found_cause g.M.Disk.tells _ _ _ c.tell_finding.result c.in-Err-Found.finding
      (λ is. subst (λ (o : Option State). IsSomeAnd o (λ s. Finds s.contents c.in-Err-Found.finding)) (sym (c.in-Ok.ensures.found is refl)) (mount.found is)) (rw c.in-Err-Found.field-0-is at c.tell_finding.ensures.tells);
})
