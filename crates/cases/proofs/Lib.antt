mod Computed
mod TheLine
