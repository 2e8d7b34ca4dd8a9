mod Cuts
mod Moments
