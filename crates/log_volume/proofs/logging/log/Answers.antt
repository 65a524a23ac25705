use Rattle.std.proofs.Common.{◌≡◌, ◌∙◌, ◌+◌, inl, ℕ, refl, ap}
use Rattle.std.specs.Prelude.{Result, Ok, Err, OnErr}
use Rattle.disk_model.proofs.Moments.{adds_then, adds_weaker}
use Rattle.block_format.specs.Root.{root_of}
use Rattle.log_volume.specs.Logging.{next_root}
use Rattle.log_volume.proofs.LoggingLemmas.{kept_in, any_keeps, switched_next}
use Rattle.log_volume.proofs.logging.log.Goals as goal

on_err : {T E P : Type 0} (r : Result T E) → P → OnErr r P
on_err (Ok x) p = tt
on_err (Err e) p = p

pub returns-in_err-append-clause-during : goal.returns-in_err-append-clause-during
returns-in_err-append-clause-during g c tells =
    adds_weaker (c.append.ensures.during tells) (λ t changes image is. inl (kept_in (g.D.Disk.state c.args.disk.now) c.args.current.now.slot c.args.current.now.body c.args.command.now _ (c.requires.current tells) c.requires.slot c.requires.room refl changes image is))

pub returns-in_err-append-clause-left : goal.returns-in_err-append-clause-left
returns-in_err-append-clause-left g c = on_err c.from_residual.result (λ tells image is.
    inl (kept_in (g.D.Disk.state c.args.disk.now) c.args.current.now.slot c.args.current.now.body c.args.command.now _ (c.requires.current tells) c.requires.slot c.requires.room refl (c.append.ensures.changes tells) image is))

pub returns-in_err-slot-clause-during : goal.returns-in_err-slot-clause-during
returns-in_err-slot-clause-during g c tells =
    let next_is : root_of c.next_body-body.result ≡ next_root (root_of c.args.current.now.body) c.args.command.now =
    c.next_body-body.ensures.next ∙ ap (λ (n : ℕ). record (root_of c.args.current.now.body) { records = c.args.current.now.body.records + 1; log_used = c.args.current.now.body.log_used + n }) c.record_blocks.ensures.is in
    adds_then
    (adds_weaker (c.append.ensures.during tells) (λ t changes image is. inl (kept_in (g.D.Disk.state c.args.disk.now) c.args.current.now.slot c.args.current.now.body c.args.command.now _ (c.requires.current tells) c.requires.slot c.requires.room refl changes image is)))
    (c.commit.ensures.during tells)
    (λ m each image is. any_keeps (g.D.Disk.state c.args.disk.now) c.args.current.now.slot c.args.current.now.body c.args.command.now _ (c.requires.current tells) c.requires.slot c.requires.room refl
    (g.D.Disk.state c.append.new.disk) (c.append.ensures.changes tells) c.next_body-body.result next_is c.next_body-body.ensures.grammar c.commit.ensures.reads_back c.append.ensures.has_record (c.in_ok-append.ensures.stands tells) image (each image is))

pub returns-in_err-slot-clause-left : goal.returns-in_err-slot-clause-left
returns-in_err-slot-clause-left g c = on_err c.from_residual-in_err-slot.result (λ tells image is.
    let next_is : root_of c.next_body-body.result ≡ next_root (root_of c.args.current.now.body) c.args.command.now =
    c.next_body-body.ensures.next ∙ ap (λ (n : ℕ). record (root_of c.args.current.now.body) { records = c.args.current.now.body.records + 1; log_used = c.args.current.now.body.log_used + n }) c.record_blocks.ensures.is in
    any_keeps (g.D.Disk.state c.args.disk.now) c.args.current.now.slot c.args.current.now.body c.args.command.now _ (c.requires.current tells) c.requires.slot c.requires.room refl
    (g.D.Disk.state c.append.new.disk) (c.append.ensures.changes tells) c.next_body-body.result next_is c.next_body-body.ensures.grammar c.commit.ensures.reads_back c.append.ensures.has_record (c.in_ok-append.ensures.stands tells) image (c.in_err-slot.ensures.left tells image is))

pub returns-clause-next : goal.returns-clause-next
returns-clause-next g c tells =
    let next_is : root_of c.next_body-body.result ≡ next_root (root_of c.args.current.now.body) c.args.command.now =
    c.next_body-body.ensures.next ∙ ap (λ (n : ℕ). record (root_of c.args.current.now.body) { records = c.args.current.now.body.records + 1; log_used = c.args.current.now.body.log_used + n }) c.record_blocks.ensures.is in
    switched_next (g.D.Disk.state c.args.disk.now) c.args.current.now.slot c.args.current.now.body c.args.command.now _ (c.requires.current tells) c.requires.slot c.requires.room refl
    (g.D.Disk.state c.append.new.disk) (c.append.ensures.changes tells) c.next_body-body.result next_is c.next_body-body.ensures.grammar c.commit.ensures.reads_back c.append.ensures.has_record (c.in_ok-append.ensures.stands tells)
    (g.D.Disk.state c.commit.new.disk) (c.in_ok-slot.ensures.switched tells)

pub returns-clause-during : goal.returns-clause-during
returns-clause-during g c tells =
    let next_is : root_of c.next_body-body.result ≡ next_root (root_of c.args.current.now.body) c.args.command.now =
    c.next_body-body.ensures.next ∙ ap (λ (n : ℕ). record (root_of c.args.current.now.body) { records = c.args.current.now.body.records + 1; log_used = c.args.current.now.body.log_used + n }) c.record_blocks.ensures.is in
    adds_then
    (adds_weaker (c.append.ensures.during tells) (λ t changes image is. inl (kept_in (g.D.Disk.state c.args.disk.now) c.args.current.now.slot c.args.current.now.body c.args.command.now _ (c.requires.current tells) c.requires.slot c.requires.room refl changes image is)))
    (c.commit.ensures.during tells)
    (λ m each image is. any_keeps (g.D.Disk.state c.args.disk.now) c.args.current.now.slot c.args.current.now.body c.args.command.now _ (c.requires.current tells) c.requires.slot c.requires.room refl
    (g.D.Disk.state c.append.new.disk) (c.append.ensures.changes tells) c.next_body-body.result next_is c.next_body-body.ensures.grammar c.commit.ensures.reads_back c.append.ensures.has_record (c.in_ok-append.ensures.stands tells) image (each image is))
