-- `bench::poke::hold` meets its contract, list by list; field 3 stands beside the word.
use Rattle.std.proofs.Common.{◌≡◌, refl, ap, List, ℕ, ◌<◌, set, arith}
use Rattle.words.specs.Words.{outstanding_at, waiting_at}
use Rattle.bench.specs.Fields.{outstanding_fields, waiting_fields, segments_of}
use Rattle.bench.specs.FieldLaws.{words_changed, word_changed, number_changed, stored_three, few_lists}
use Rattle.bench.proofs.poke.hold.Goals as goal

pub returns-in-0-default : goal.returns-in-0-default
returns-in-0-default c h =
    let a = c.args in
    let e = c.in-0-default.is-0 in
    let r = c.reword.ensures in
    record {
      segments = rw (e, r.is) (ap (λ (s : List (List ℕ)). set (segments_of a.link) 0 s)
          (words_changed a.link.queued a.index r.word a.field _ (λ g. r.fields g (rw e at h))));
      counts = refl;
      fields = refl;
    }

pub returns-in-1-eq3 : goal.returns-in-1-eq3
returns-in-1-eq3 c h =
    let a = c.args in
    record {
      segments = rw (c.in-1-eq3.is-0, c.in-1-eq3.is-1, c.replace.ensures)
          (ap (λ (s : List (List ℕ)). set (segments_of a.link) 1 s)
          (number_changed outstanding_at outstanding_fields (λ w n. refl) a.link.outstanding a.link.transmissions a.index _));
      counts = refl;
      fields = refl;
    }

pub returns-in-1-default : goal.returns-in-1-default
returns-in-1-default c h =
    let a = c.args in
    let e = c.in-1-default.is-0 in
    let three : a.field < 3 = omega (arith, rw e at h, c.in-1-default.is-1) in
    let r = c.reword-in-1-default.ensures in
    record {
      segments = rw (e, r.is, stored_three 1 a.field a.value (omega arith) three)
          (ap (λ (s : List (List ℕ)). set (segments_of a.link) 1 s)
          (word_changed outstanding_at outstanding_fields (λ w n. refl) a.link.outstanding a.link.transmissions a.index r.word
          a.field _ three (λ g. r.fields g three)));
      counts = refl;
      fields = refl;
    }

pub returns-in-2-default : goal.returns-in-2-default
returns-in-2-default c h =
    let a = c.args in
    let e = c.in-2-default.is-0 in
    let r = c.reword-in-2-default.ensures in
    record {
      segments = rw (e, r.is) (ap (λ (s : List (List ℕ)). set (segments_of a.link) 2 s)
          (words_changed a.link.ready a.index r.word a.field _ (λ g. r.fields g (rw e at h))));
      counts = refl;
      fields = refl;
    }

pub returns-in_default-eq3 : goal.returns-in_default-eq3
returns-in_default-eq3 c h =
    let a = c.args in
    let e : a.list ≡ 3 = omega (arith, few_lists _ _ h, c.in_default-eq3.is-0) in
    record {
      segments = rw (e, c.in_default-eq3.is-1, c.replace-in_default-eq3.ensures)
          (ap (λ (s : List (List ℕ)). set (segments_of a.link) 3 s)
          (number_changed waiting_at waiting_fields (λ w n. refl) a.link.waiting a.link.waiting_numbers a.index _));
      counts = refl;
      fields = refl;
    }

pub returns-in_default : goal.returns-in_default
returns-in_default c h =
    let a = c.args in
    let e : a.list ≡ 3 = omega (arith, few_lists _ _ h, c.in_default.is-0) in
    let three : a.field < 3 = omega (arith, rw e at h, c.in_default.is-1) in
    let r = c.reword-in_default.ensures in
    record {
      segments = rw (e, r.is, stored_three 3 a.field a.value (omega arith) three)
          (ap (λ (s : List (List ℕ)). set (segments_of a.link) 3 s)
          (word_changed waiting_at waiting_fields (λ w n. refl) a.link.waiting a.link.waiting_numbers a.index r.word a.field _
          three (λ g. r.fields g three)));
      counts = refl;
      fields = refl;
    }
