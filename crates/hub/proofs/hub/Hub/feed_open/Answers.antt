use Rattle.std.proofs.Common.{arith}
use Rattle.hub.specs.State.{hub_at}
use Rattle.hub.proofs.{Feeding.{Feed, IsFed, finds_here, is_entry, entry_rests, is_fed, fed_feeds, lost_breaks, fed_holds}, hub.Hub.feed_open.Given.Over}
use Rattle.hub.proofs.hub.Hub.feed_open.Goals.{in-Ok, in-Err}
use Rattle.hub.proofs.hub.Hub.feed_open.Goals as goal

pub index_mut-entry-requires : goal.index_mut-entry-requires
index_mut-entry-requires g c =
    let h = hub_at c.self.inside.options (g.A.RepoAccess.point c.self.inside.access) c.self.inside.sessions.items c.self.inside.used in
    let lt = (finds_here h c.args.self.now c.args.number c.args.i c.self.view_is c.requires.found).lt in
    omega (arith, c.self.inside.sessions.ok.0)

pub feed-fed-requires : goal.feed-fed-requires
feed-fed-requires g c =
    let h = hub_at c.self.inside.options (g.A.RepoAccess.point c.self.inside.access) c.self.inside.sessions.items c.self.inside.used in
    let entry = c.index_mut-entry.result.now in
    let rests = entry_rests h c.args.number entry c.self.invariant.1
    (is_entry h c.args.self.now c.args.number c.args.i entry c.self.view_is c.self.invariant.0 c.requires.found c.index_mut-entry.ensures.value) in
    record { rests = rests }

-- what the session was fed
abbrev feed : (g : Over) (c : goal.Joined-fed g) → Feed
feed g c = record {
  number = c.args.number;
  piece = c.args.piece.now;
  env = c.args.turn.now.env;
  at = g.A.RepoAccess.point c.self.inside.access;
  at_after = g.A.RepoAccess.point c.feed-fed.new.access;
  session = c.index_mut-entry.result.now.1;
  session_after = c.feed-fed.new.self;
  sessions = c.self.inside.sessions.items;
  sessions_after = c.drop_if_ended.new.sessions.items;
  used = c.self.inside.used;
}

fed : (g : Over) (c : goal.Joined-fed g) → IsFed c.self.inside.options c.args.self.now (feed g c)
fed g c =
    let h = hub_at c.self.inside.options (g.A.RepoAccess.point c.self.inside.access) c.self.inside.sessions.items c.self.inside.used in
    let entry = c.index_mut-entry.result.now in
    is_fed c.self.inside.options c.args.self.now (feed g c) c.args.i entry.0 c.is_open-is_open.result c.self.view_is
    (is_entry h c.args.self.now c.args.number c.args.i entry c.self.view_is c.self.invariant.0 c.requires.found c.index_mut-entry.ensures.value)
    c.requires.found c.is_open-is_open.ensures c.drop_if_ended.ensures

pub invariant_of-self : goal.invariant_of-self
invariant_of-self g c =
    let s = c.self.inside.options in
    let old = c.args.self.now in
    let f = feed g c in
    fed_holds s old f (fed g c) c.self.invariant.0 c.self.invariant.1 c.feed-fed.ensures.stays c.feed-fed.ensures.rests

pub returns-clause-ok : goal.returns-clause-ok
returns-clause-ok g c =
    let writes = g.S.ReplySink.writes c.args.turn.now.out c.feed-fed.new.turn.out in
    elim c.match-fed.branch [
      | in-Ok w ↦
          rw w.result-is (λ known. fed_feeds g.A.RepoAccess.rules c.self.inside.options g.met.A.SoleAccess.alone g.met.A.RepoAccess.counts c.args.self.now (feed g c) writes (fed g c) (w.in-Ok.ensures.ok known))
      | in-Err w ↦ rw w.result-is (λ _. tt)
    ]

pub returns-clause-err : goal.returns-clause-err
returns-clause-err g c =
    let writes = g.S.ReplySink.writes c.args.turn.now.out c.feed-fed.new.turn.out in
    elim c.match-fed.branch [
      | in-Ok w ↦ rw w.result-is (λ _. tt)
      | in-Err w ↦
          rw w.result-is (λ known. lost_breaks g.A.RepoAccess.rules c.self.inside.options g.met.A.SoleAccess.alone g.met.A.RepoAccess.counts c.args.self.now (feed g c) writes (fed g c) w.in-Err.ensures.err (w.in-Err.ensures.lost known (fed g c).lives))
    ]
