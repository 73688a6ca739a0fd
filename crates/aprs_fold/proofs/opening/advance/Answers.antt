use Rattle.aprs_fold.proofs.Common.{get_or, inl, inr, slice_get-get_or}
use Rattle.std.proofs.lemmas.List.{length-set}
use Rattle.aprs_fold.proofs.Begun.{ChangesAt-set}
use Rattle.aprs_fold.proofs.Reading.{ahead_less, reads_on, ready_is, row_at-other, row_at-set, AreReading-after, AreReading-faulty, AreReading-on}
use Rattle.aprs_fold.proofs.opening.advance.Goals as goal

pub advance-requires-clause-few : goal.advance-requires-clause-few
advance-requires-clause-few g c =
    let s = c.args.streams.now in
    let i = c.args.index in
    let d = c.index-streams-index.result in
    (ready_is i s (get_or s i d) (slice_get-get_or s i d c.requires.there) c.requires.ready).0

pub advance-requires-clause-going : goal.advance-requires-clause-going
advance-requires-clause-going g c =
    let s = c.args.streams.now in
    let i = c.args.index in
    let d = c.index-streams-index.result in
    (ready_is i s (get_or s i d) (slice_get-get_or s i d c.requires.there) c.requires.ready).1

pub returns-in-Ok-clause-one : goal.returns-in-Ok-clause-one
returns-in-Ok-clause-one g c =
    let s = c.args.streams.now in
    let n = c.args.inputs.now in
    let i = c.args.index in
    let d = c.index-streams-index.result in
    let e = c.index-inputs-index.result in
    let here = slice_get-get_or n i e c.requires.within in
    let there = slice_get-get_or s i d c.requires.there in
    let going = (ready_is i s (get_or s i d) there c.requires.ready).1 in
    λ limit gap first taken h.
    let reading = AreReading-on g.R.Read.remaining limit gap (get_or n i e) c.advance.new.source
    (get_or s i d) c.advance.new.self i first n s taken here there
    (λ f t k. reads_on g.R.Read.remaining limit gap f (get_or n i e) c.advance.new.source
    (get_or s i d) c.advance.new.self t going
    (λ l head first rows got. c.in-Ok.ensures.one l head first rows got) c.in-Ok.ensures.size
    c.in-Ok.ensures.version c.advance.ensures.keeping c.in-Ok.ensures.taken k) h in (
      reading,
      λ k x y at own. elim (row_at-set s i k c.advance.new.self y own) [
        | inl old ↦ inl old
        | inr new ↦ inr (AreReading-after g.R.Read.remaining limit gap i first n s taken
            c.advance.new.source c.advance.new.self x y at h reading new)
      ],
    )

pub returns-in-Ok-clause-stays : goal.returns-in-Ok-clause-stays
returns-in-Ok-clause-stays g c =
    let s = c.args.streams.now in
    let i = c.args.index in (
      length-set s i c.advance.new.self,
      λ k unlike. row_at-other s i k c.advance.new.self unlike,
    )

pub returns-in-Ok-clause-less : goal.returns-in-Ok-clause-less
returns-in-Ok-clause-less g c =
    let s = c.args.streams.now in
    let i = c.args.index in
    let d = c.index-streams-index.result in
    let there = slice_get-get_or s i d c.requires.there in
    ahead_less i s (get_or s i d) c.advance.new.self there
    (ready_is i s (get_or s i d) there c.requires.ready).1 c.in-Ok.ensures.less

pub returns-in-Ok-clause-changes : goal.returns-in-Ok-clause-changes
returns-in-Ok-clause-changes g c = ChangesAt-set c.args.index c.args.inputs.now c.advance.new.source

pub returns-in-Err-clause-changes : goal.returns-in-Err-clause-changes
returns-in-Err-clause-changes g c = ChangesAt-set c.args.index c.args.inputs.now c.advance.new.source

pub returns-in-Err-clause-fault : goal.returns-in-Err-clause-fault
returns-in-Err-clause-fault g c =
    let s = c.args.streams.now in
    let n = c.args.inputs.now in
    let i = c.args.index in
    let d = c.index-streams-index.result in
    let e = c.index-inputs-index.result in
    let there = slice_get-get_or s i d c.requires.there in
    λ limit gap first taken h.
    AreReading-faulty g.R.Read.remaining limit gap (get_or n i e) c.advance.new.source (get_or s i d)
    c.advance.new.self c.in-Err.fault i first n s taken
    (slice_get-get_or n i e c.requires.within) there
    (ready_is i s (get_or s i d) there c.requires.ready).1 c.in-Err.ensures.fault h
