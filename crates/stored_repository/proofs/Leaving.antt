-- What files stand for goes on from save to save.
use Rattle.std.proofs.{Common.{◌≡◌, ◌⊎◌, inl, inr, ⊎_elim, false, List, [], ◌∷◌, ◌++◌, Option, Some, None, refl, subst}, Math.Logic.{∥∥₁_map, ∥∥₁_map₂}}
use Rattle.std.specs.Prelude.{◌↔◌, Result}
use Rattle.repo_api.specs.{Accepted.{Accepted, changed, IsAccepted}, Accepted.Accepted.{Commits, Releases}, States.{RepoState, TxnState}}
use Rattle.repo_api.specs.declared.ask.CommitAsk.{CommitAsk}
use Rattle.access.specs.{declared.handed.Handed.Handed, Handed.IsHandedIn, Beginnings.{AreAmong, IsAmong, through}}
use Rattle.store_files.specs.{Folders.Folder, declared.store.Store.Ghosts, declared.fault.StoreFault.StoreFault}
use Rattle.repostore.specs.{Files.{Files, HasEither}, Saving.{IsSaved, SaveMakes}, declared.saves.Saves.Saves}
use Rattle.repostore.proofs.{Joining.join, Steps.{begun, stands_too, weaker}}
use Rattle.access.proofs.First as first
use Rattle.access.proofs.Running.{AreLasting}
use Rattle.stored_repository.specs.{Keeping.{HasRepository, Keeps}, Leaving.{FilesLeave, FilesStand, HasOneOf, LeavesByCall}, Stored.releases_of}
use Rattle.stored_repository.proofs.Stops.{stored_stands}

in_front : (c : RepoState) (cs ds : List RepoState) → IsAmong c cs → IsAmong c (cs ++ ds)
in_front c [] ds none = absurd none
in_front c (d ∷ cs) ds (inl is) = inl is
in_front c (d ∷ cs) ds (inr in_cs) = inr (in_front c cs ds in_cs)

behind : (c : RepoState) (cs ds : List RepoState) → IsAmong c ds → IsAmong c (cs ++ ds)
behind c [] ds in_ds = in_ds
behind c (d ∷ cs) ds in_ds = inr (behind c cs ds in_ds)

module _ {F S : Type 0} (content : F → RepoState) (is_of : F → Files → Type 0) (s : Ghosts S) where
  abbrev Has : List RepoState → Folder → Type 0
  Has cs folder = ∥ HasOneOf content is_of cs folder ∥₁

  abbrev Leave : Saves S → Saves S → List RepoState → Type 0
  Leave = FilesLeave content is_of s

  more : (cs ds : List RepoState) → AreAmong cs ds → (folder : Folder) → Has cs folder → Has ds folder
  more cs ds among folder has = ∥∥₁_map has (λ h. record { state = h.state; among = among h.state h.among; has = h.has })

  -- while changes are saved, the files are those of the repository
  pub stand_now : (saves : Saves S) (r : F) → ∥ Keeps s is_of saves r ∥₁ → saves.is_halted ≡ false
      → FilesStand content is_of s saves (content r ∷ [])
  stand_now saves r kept running honest =
      stands_too s saves.store (λ folder. ∥ HasRepository content is_of (content r) folder ∥₁) (Has (content r ∷ []))
      (λ folder has. ∥∥₁_map has (λ h. record { state = content r; among = inl refl; has = h }))
      (stored_stands s content is_of saves r kept honest running)

  pub stays : ((store : S) (folder : Folder) → s.is_honest store → s.left_since store (s.moment store) folder → s.may_leave store folder)
      → (a : Saves S) (cs : List RepoState) → FilesStand content is_of s a cs → Leave a a cs
  stays only_now a cs stands = record {
    honest = ((λ h. h), (λ h. h));
    run = λ honest. ∣ (begun s a.store (Has cs) (only_now a.store) (stands honest)).run ∣₁;
    now = stands;
  }

  pub among : (a b : Saves S) (cs ds : List RepoState) → AreAmong cs ds → Leave a b cs → Leave a b ds
  among a b cs ds are leaves = record {
    honest = leaves.honest;
    run = λ honest. ∥∥₁_map (leaves.run honest) (weaker s a.store b.store (Has cs) (Has ds) (more cs ds are));
    now = λ honest. stands_too s b.store (Has cs) (Has ds) (more cs ds are) (leaves.now honest);
  }

  pub joins : (a b c : Saves S) (cs ds : List RepoState) → Leave a b cs → Leave b c ds → Leave a c (cs ++ ds)
  joins a b c cs ds one then = record {
    honest = ((λ h. then.honest.0 (one.honest.0 h)), (λ h. one.honest.1 (then.honest.1 h)));
    run = λ honest. ∥∥₁_map₂ (one.run honest) (then.run (one.honest.0 honest)) (λ x y.
        weaker s a.store c.store (λ folder. Has cs folder ⊎ Has ds folder) (Has (cs ++ ds))
        (λ folder. ⊎_elim (more cs (cs ++ ds) (λ d. in_front d cs ds) folder) (more ds (cs ++ ds) (λ d. behind d cs ds) folder))
        (join s a.store b.store c.store (Has cs) (Has ds) x y));
    now = λ honest. stands_too s c.store (Has ds) (Has (cs ++ ds)) (more ds (cs ++ ds) (λ d. behind d cs ds)) (then.now honest);
  }

  pub rests : (a b : Saves S) (cs : List RepoState) → Leave a b cs → FilesStand content is_of s b cs
  rests a b cs leaves = leaves.now

  pub lasting : ((store : S) (folder : Folder) → s.is_honest store → s.left_since store (s.moment store) folder → s.may_leave store folder)
      → AreLasting (FilesStand content is_of s) Leave
  lasting only_now = record { stays = stays only_now; joins = joins; rests = rests }

  -- what the save of a change leaves
  module _ {T : Type 0} (old new : Saves S) (result : Result T StoreFault) (r next : F) (made : Files → Files) (e : Accepted)
      (kept : ∥ Keeps s is_of old r ∥₁) (running : old.is_halted ≡ false) (honest : s.is_honest old.store ↔ s.is_honest new.store)
      (of : (files : Files) → is_of r files → is_of next (made files)) (makes : content next ≡ changed (content r) e)
      (saves : (files : Files) → is_of r files → IsSaved s old files → SaveMakes s old new result files (made files)) where
    of_either : (files : Files) → is_of r files → (folder : Folder) → HasEither files (made files) folder
        → HasOneOf content is_of (through (content r) (e ∷ [])) folder
    of_either files are folder (inl was) = record {
      state = content r;
      among = inl refl;
      has = record { repository = r; files = files; has = was; of_these = are; contains = refl };
    }
    of_either files are folder (inr is) = record {
      state = changed (content r) e;
      among = inr (inl refl);
      has = record { repository = next; files = made files; has = is; of_these = of files are; contains = makes };
    }

    pub save_leaves : Leave old new (through (content r) (e ∷ []))
    save_leaves = record {
      honest = honest;
      run = λ is. ∥∥₁_map kept (λ k.
          let i = k is running in
          weaker s old.store new.store (HasEither i.files (made i.files)) (Has (through (content r) (e ∷ [])))
          (λ folder has. ∣ of_either i.files i.of_these folder has ∣₁)
          (saves i.files i.of_these i.saved).stop);
      now = λ is. record {
        honest = is;
        read = ∥∥₁_map kept (λ k.
            let i = k (honest.1 is) running in
            of_either i.files i.of_these (s.holds new.store) (saves i.files i.of_these i.saved).stands.read);
        left = λ folder left. ∥∥₁_map kept (λ k.
            let i = k (honest.1 is) running in
            of_either i.files i.of_these folder ((saves i.files i.of_these i.saved).stands.left folder left));
      };
    }

  -- ---- calls, by the repository and its saves

  abbrev Call : List Accepted → F × Saves S → F × Saves S → Type 0
  Call = LeavesByCall content is_of s

  -- a change was saved, and it is made
  pub call_made : (old new : Saves S) (r next : F) (e : Accepted) → old.is_halted ≡ false → IsAccepted (content r) e
      → content next ≡ changed (content r) e → Leave old new (through (content r) (e ∷ [])) → Call (e ∷ []) (r, old) (next, new)
  call_made old new r next e running accepted makes left =
      first.saved {K = F × Saves S} (λ k. content k.0) (λ k. k.1) (λ saves. saves.is_halted) Leave (r, old) (next, new) e (e ∷ []) running accepted ([], refl) makes left

  -- its save failed
  pub call_failed : (old new : Saves S) (r : F) (e : Accepted) → old.is_halted ≡ false → IsAccepted (content r) e
      → Leave old new (through (content r) (e ∷ [])) → Call (e ∷ []) (r, old) (r, new)
  call_failed old new r e running accepted left =
      first.saved {K = F × Saves S} (λ k. content k.0) (λ k. k.1) (λ saves. saves.is_halted) Leave (r, old) (r, new) e [] running accepted (e ∷ [], refl) refl left

  -- nothing is done
  pub call_still : ((store : S) (folder : Folder) → s.is_honest store → s.left_since store (s.moment store) folder → s.may_leave store folder)
      → (saves : Saves S) (r : F) (asked : List Accepted) → ∥ Keeps s is_of saves r ∥₁ → Call asked (r, saves) (r, saves)
  call_still only_now saves r asked kept =
      first.still {K = F × Saves S} (λ k. content k.0) (λ k. k.1) (λ x. x.is_halted) Leave (r, saves) asked
      (λ running. stays only_now saves (content r ∷ []) (stand_now saves r kept running))

  -- a commit, and then the release of what was handed in
  release_asked : (m l : F × Saves S) (ask : CommitAsk) (handed : Option Handed) → IsHandedIn ask handed
      → Call (releases_of handed) m l → Call (Releases ask.author ask.tokens ∷ []) m l
  release_asked m l ask None is left =
      first.asked_more {K = F × Saves S} (λ k. content k.0) (λ k. k.1) (λ saves. saves.is_halted) Leave m l [] (Releases ask.author ask.tokens ∷ []) left
  release_asked m l ask (Some handed) is left =
      subst (λ (e : Accepted). Call (e ∷ []) m l) (λ i. Releases (is.1 i) (is.2 i)) left

  pub committed_and_released : (k m l : F × Saves S) (ask : CommitAsk) (t : TxnState) (handed : Option Handed) → IsHandedIn ask handed
      → k.1.is_halted ≡ false → m.1.is_halted ≡ false → IsAccepted (content k.0) (Commits ask t)
      → content m.0 ≡ changed (content k.0) (Commits ask t) → Call (Commits ask t ∷ []) k m → Call (releases_of handed) m l
      → Call (Commits ask t ∷ Releases ask.author ask.tokens ∷ []) k l
  committed_and_released k m l ask t handed is running goes_on accepted makes committed then =
      first.saved_then {K = F × Saves S} (λ k. content k.0) (λ k. k.1) (λ saves. saves.is_halted) Leave joins among k m l (Commits ask t)
      (Releases ask.author ask.tokens ∷ []) running goes_on accepted makes committed (release_asked m l ask handed is then)

  -- a commit that was not made
  pub not_released : (k m : F × Saves S) (ask : CommitAsk) (t : TxnState) → Call (Commits ask t ∷ []) k m
      → Call (Commits ask t ∷ Releases ask.author ask.tokens ∷ []) k m
  not_released k m ask t left =
      first.asked_more {K = F × Saves S} (λ k. content k.0) (λ k. k.1) (λ saves. saves.is_halted) Leave k m (Commits ask t ∷ []) (Releases ask.author ask.tokens ∷ []) left
