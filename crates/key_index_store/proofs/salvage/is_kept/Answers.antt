use Rattle.std.proofs.Common.{◌≡◌, ◌≤◌, ◌||◌, length, take, sym, ap, subst, ◌∙◌}
use Rattle.key_index_flat.specs.View.{run_of}
use Rattle.key_index_store.specs.Indexed.{HasRuns, entry_at, key_at}
use Rattle.key_index_store.specs.Salvage.{is_listed}
use Rattle.key_index_store.proofs.DamageLemmas.{shown}
use Rattle.key_index_store.proofs.StoreLemmas.{is_at-listed}
use Rattle.key_index_store.proofs.salvage.is_kept.Goals as goal

pub returns-clause-told : goal.returns-clause-told
returns-clause-told g c = λ len few log seen within runs is.
    let key = c.args.key.now in
    let s = g.I.Runs.view c.args.index.now in
    let end = c.args.from.now.end in
    let same : len ≡ end = few c.if-is_all.false in
    let front = take end log in
    let ps = run_of g.I.Key.Ord.cmp s key in
    let damaged = g.D.Device.damaged c.find.new.self.device in
    let found = c.in_ok-found.ensures in
    let inside = subst (λ n. n ≤ length log) same within in
    let both = subst (λ n. HasRuns g.I.Key.Ord.cmp s damaged c.args.is_all (take n log)) same runs c.if-is_all.false in
    let run = both.1 key in
    let known = shown damaged (entry_at front) key ps c.in_ok-found.found.place c.in_ok-found.found.is_hidden both.0 (found.hidden log seen inside run) in
    c.is_at.ensures
    ∙ is_at-listed front ps key c.args.place run (subst (λ n. key_at (take n log) c.args.place ≡ key) same is) c.in_ok-found.found.place c.in_ok-found.found.read (found.at log seen inside run known) found.found
    ∙ ap (λ b. b || is_listed c.args.place ps) (sym c.if-is_all.false)
