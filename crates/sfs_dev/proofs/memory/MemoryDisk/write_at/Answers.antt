-- What the list says of a crash once the write stands in it.
use Rattle.std.proofs.Common.{rules, refl, length, arith, ◌∙◌, sym, subst}
use Rattle.sfs_dev.specs.RangeLaws.{SameOutside-refl}
use Rattle.sfs_dev.proofs.Writes.{write_past, write_torn, write_any, unmoved, sliced}
use Rattle.sfs_dev.proofs.memory.MemoryDisk.write_at.Goals as goal

pub returns-in-Err-clause-images : goal.returns-in-Err-clause-images
returns-in-Err-clause-images c =
    let m = c.args.self.now in
    λ image left. (
      image,
      unmoved m.calls.items c.keep.new.calls.items m.bytes.items m.replaced.items c.keep.new.replaced.items m.moment c.raise.new.count image m.moments_bounded
          c.in-Err.ensures.calls c.in-Err.ensures.replaced
          (omega (arith, c.raise.ensures, m.moment_fits)) left,
      SameOutside-refl c.args.at (length c.args.from.now) image,
    )

pub returns-clause-images : goal.returns-clause-images
returns-clause-images c =
    let m = c.args.self.now in
    write_torn m.calls.items c.keep.new.calls.items c.args.at m.moment c.raise.new.count c.args.from.now m.bytes.items m.replaced.items
    c.replace.new.bytes.items c.keep.new.replaced.items
    (omega (arith, c.requires.within, m.whole)) m.moments_bounded (omega (arith, c.raise.ensures, m.moment_fits)) c.in_default.ensures.calls
    (c.in_default.ensures.replaced ∙ sliced c.args.at (length c.args.from.now) _ _ _ c.deref.ensures.value) c.replace.ensures.put

pub returns-clause-any : goal.returns-clause-any
returns-clause-any c =
    let m = c.args.self.now in
    write_any m.calls.items c.keep.new.calls.items c.args.at m.moment c.raise.new.count c.args.from.now m.bytes.items m.replaced.items c.replace.new.bytes.items
    c.keep.new.replaced.items
    (omega (arith, c.requires.within, m.whole)) m.moments_bounded (omega (arith, c.raise.ensures, m.moment_fits)) c.in_default.ensures.calls
    (c.in_default.ensures.replaced ∙ sliced c.args.at (length c.args.from.now) _ _ _ c.deref.ensures.value) c.replace.ensures.put

pub returns-clause-call : goal.returns-clause-call
returns-clause-call c =
    let m = c.args.self.now in
    record {
      time = record {
        counted = c.raise.ensures;
        past = λ k image lt.
            let same =
            write_past m.calls.items c.keep.new.calls.items c.args.at m.moment c.raise.new.count c.args.from.now m.bytes.items m.replaced.items
            c.replace.new.bytes.items c.keep.new.replaced.items
            (omega (arith, c.requires.within, m.whole)) m.moments_bounded (omega (arith, c.raise.ensures, m.moment_fits)) c.in_default.ensures.calls
            (c.in_default.ensures.replaced ∙ sliced c.args.at (length c.args.from.now) _ _ _ c.deref.ensures.value) c.replace.ensures.put k image lt in
            (subst (λ (T : Type 0). T) same, subst (λ (T : Type 0). T) (sym same));
      };
      size = refl;
      cause = search rules;
    }
